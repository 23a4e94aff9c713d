use Rattle.std.proofs.Common.{rules}
use Rattle.calls.proofs.Given.{few-kept, given-not-under, given_too_long, given-written, variables, write-fit, write-high, fits-are}
use Rattle.calls.proofs.checked.give_rows.Goals as goal

-- src/checked.rt:173:9
pub returns-then-not-all_under : goal.returns-then-not-all_under
returns-then-not-all_under c = search (given-not-under, rules)

-- src/checked.rt:176:9
pub fits-requires : goal.fits-requires
fits-requires c = search (few-kept, rules)

-- src/checked.rt:177:9
pub returns-then-not-fits : goal.returns-then-not-fits
returns-then-not-fits c = search (given_too_long, rules)

-- src/checked.rt:179:5
pub write_rows-requires : goal.write_rows-requires
write_rows-requires c =
    (search (write-fit, rules), search rules, search (write-high, rules), search (variables, rules), search (fits-are, rules))

-- src/checked.rt:160:1
pub returns : goal.returns
returns c = search (given-written, rules)
