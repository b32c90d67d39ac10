-- What the `put` functions promise: a text behind the one that stands on a page. Assumes nothing: these are definitions.
use Rattle.std.specs.Prelude.{◌≡◌, List, ◌++◌, ℕ, ◌-◌, length, take}

-- a page as its callers see it: what stands on it, and for how many more bytes there is room
pub record Sheet : Type 0 where
  pub text : List ℕ
  pub left : ℕ

-- on `after` stands the text of `before` and then `text`, cut where the room ends
pub record Appended (before : Sheet) (text : List ℕ) (after : Sheet) : Type 0 where
  pub bytes : after.text ≡ before.text ++ take before.left text
  pub left : after.left ≡ before.left - length text
