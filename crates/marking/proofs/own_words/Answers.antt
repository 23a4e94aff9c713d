use Rattle.std.proofs.Common.{◌≡◌, ◌+◌}
use Rattle.meaning.specs.Tests.{◌and◌}
use Rattle.marking.specs.Runs.{word}
use Rattle.marking.proofs.Rules.{and-then, and-else, own-then, own-else}
use Rattle.marking.proofs.own_words.Goals as goal
use Rattle.marking.proofs.own_words.Goals.{then-is_word, else-is_word}

pub returns-then-is_word-2 : goal.returns-then-is_word-2
returns-then-is_word-2 c =
    let two : c.if-is_word.value ≡ (word c.args.marks.now c.args.names c.args.i and word c.args.marks.now c.args.names (c.args.i + 1)) = elim c.if-is_word.branch [
      | then-is_word w ↦ cc (and-then w.if-is_word.true c.is_word.ensures w.is_word-then-is_word.ensures)
      | else-is_word w ↦ cc (and-else (word c.args.marks.now c.args.names (c.args.i + 1)) w.if-is_word.false c.is_word.ensures)
    ] in
    own-then _ _ _ two c.if-is_word-2.true c.is_word-then-is_word-2.ensures

pub returns-else-is_word-2 : goal.returns-else-is_word-2
returns-else-is_word-2 c =
    let two : c.if-is_word.value ≡ (word c.args.marks.now c.args.names c.args.i and word c.args.marks.now c.args.names (c.args.i + 1)) = elim c.if-is_word.branch [
      | then-is_word w ↦ cc (and-then w.if-is_word.true c.is_word.ensures w.is_word-then-is_word.ensures)
      | else-is_word w ↦ cc (and-else (word c.args.marks.now c.args.names (c.args.i + 1)) w.if-is_word.false c.is_word.ensures)
    ] in
    own-else _ _ _ two c.if-is_word-2.false
