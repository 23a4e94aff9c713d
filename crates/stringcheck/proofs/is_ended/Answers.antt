-- Nothing is due any more, by what is due
use Rattle.std.proofs.Common.{◌≡◌, false, refl, rules}
use Rattle.meaning.specs.Text.{ended}
use Rattle.meaning.specs.declared.Due.{Due}
use Rattle.meaning.specs.declared.Due.TheVariants.{Nothing, One, Two, Three, AfterE0, AfterEd, AfterF0, AfterF4, Wrong}
use Rattle.stringcheck.proofs.is_ended.Goals as goal

still_due : (d : Due) → (d ≡ Nothing → ⊥) → false ≡ ended d
unfolding ended
still_due Nothing h = absurd (h refl)
still_due One h = refl
still_due Two h = refl
still_due Three h = refl
still_due AfterE0 h = refl
still_due AfterEd h = refl
still_due AfterF0 h = refl
still_due AfterF4 h = refl
still_due Wrong h = refl

pub returns-in-Nothing : goal.returns-in-Nothing
unfolding ended
returns-in-Nothing c = search rules

pub returns-in_default : goal.returns-in_default
returns-in_default c = search (still_due, rules)
