-- The blocks of entities that may stand in a run, as a table filled from the front
use mathlib.Core.Bool.{false}
use Rattle.meaning.specs.Check.{entity_item}
use Rattle.meaning.specs.Tests.{all_below}
use Rattle.listruns.specs.Blocks.{block_start}
use Rattle.stringcheck.specs.Tables.{Filling}
use Rattle.pointcheck.proofs.entity_blocks.Given as goal

abbrev pub invariant-loop-k : goal.invariant-loop-k
invariant-loop-k l = Filling false (λ k. all_below 512 (entity_item l.s (block_start k))) 2052 l.k-end l.blocks l.k
