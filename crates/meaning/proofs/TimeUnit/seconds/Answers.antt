use Rattle.std.proofs.Common.{rules}
use Rattle.meaning.specs.Number.{seconds_of}
use Rattle.meaning.proofs.TimeUnit.seconds.Goals as goal

pub returns-in-Seconds : goal.returns-in-Seconds
unfolding seconds_of
returns-in-Seconds c = rw c.in-Seconds.is

pub returns-in-Minutes : goal.returns-in-Minutes
unfolding seconds_of
returns-in-Minutes c = search rules

pub returns-in-Hours : goal.returns-in-Hours
unfolding seconds_of
returns-in-Hours c = search rules

pub returns-in-Days : goal.returns-in-Days
unfolding seconds_of
returns-in-Days c = search rules
