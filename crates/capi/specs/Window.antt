-- What a caller in C sees of the window test
use Rattle.std.specs.Prelude.{ℕ}
use Rattle.meaning.specs.declared.Window.{Window}
use Rattle.meaning.specs.declared.Window.TheVariants.{Inside, TooOld, Later}

unfoldable pub window_number : Window → ℕ
window_number Inside = 0
window_number TooOld = 1
window_number Later = 2
