-- From the window test's answer to the number that a caller in C sees
use mathlib.Core.Path.{◌≡◌, sym, ap, ◌∙◌}
use lib.IntN.{ℤ}
use Rattle.meaning.specs.declared.Window.{Window}
use Rattle.meaning.specs.declared.Window.TheVariants.{Inside, TooOld, Later}
use Rattle.meaning.specs.Number.{window}
use Rattle.capi.specs.Window.{window_number}

module _ (span from to : ℤ) {w : Window} (e : w ≡ window span from to) where
  pub tells-inside : w ≡ Inside → 0 ≡ window_number (window span from to)
  unfolding window_number
  tells-inside h = ap window_number (sym h ∙ e)

  pub tells-old : w ≡ TooOld → 1 ≡ window_number (window span from to)
  unfolding window_number
  tells-old h = ap window_number (sym h ∙ e)

  pub tells-later : w ≡ Later → 2 ≡ window_number (window span from to)
  unfolding window_number
  tells-later h = ap window_number (sym h ∙ e)
