-- A variable's part of the caller's memory: its cells, its filled flag and its yoke's number are where the definitions put them. Assumes
-- nothing.
use mathlib.Core.Path.{◌≡◌, refl, sym, ap, ◌∙◌}
use mathlib.Core.Bool.{true, false}
use mathlib.Core.List.{List}
use mathlib.Core.Option.{Option, some, none}
use Prim.Native.Nat.{ℕ, ◌+◌, ◌-◌, ◌*◌, ◌≤◌, ◌<◌}
use native.Mathlib.Omega.{arith}
use lib.IntN.{ℤ, pos}
use lib.Dec.{eqb}
use lib.ListN.{length, take, drop}
use lib.Seq.{take_at, take-take}
use borrow.Author.Tests.{eqb-true, eqb-false, not-true, not-false}
use Rattle.lingua.specs.Numbers.{body_cells, states_length, expression_section}
use Rattle.lingua.specs.Body.{size}
use Rattle.lingua.specs.Value.{pad, cells_of, Composite}
use Rattle.lingua.specs.Expression.{yoke_number}
use Rattle.lingua.specs.Rows.{table_count}
use Rattle.lingua.specs.Store.{Variable, no_variable, variable_at, content_cells, filled_flag, cells_in, flag_place, yoke_place, flag_at, yoke_at, filled_at}
use Rattle.lingua.specs.Trees.{yoke_tree}
use Rattle.lingua.specs.Typing.{Bodies}
use Rattle.laws.specs.Lengths.{length_cells}
use Rattle.laws.specs.Every.{every_by}
use Rattle.laws.specs.Stores.{Small, cells_at, cells_long, states_long, yoke_room, flag_room, flag_at_lem, yoke_at_lem}
use Rattle.safety.specs.Constants.{Fitting}
use Rattle.safety.specs.TypeSound.{VariablesFit}
use Rattle.safety.specs.Named.{number_of}
use Rattle.profile.specs.Yokes.{YokeOf}
use Rattle.cells.specs.Stack.{Lies}
use Rattle.run.specs.Memory.{Memory}

module _ {cells : List ℤ} {states : List ℕ} {vs : List Variable} {vars : Bodies} (h : Memory cells states vs vars) where
  -- a filled variable's value has its body and fits
  pub filled : (n : ℕ) (x : Composite) → (variable_at vs n).content ≡ some x → (x.body ≡ vars n) × Fitting x
  unfolding VariablesFit
  filled n x q = h.fit n x q

  content_small : (n : ℕ) → n < length vs → length (content_cells (variable_at vs n).content) ≤ body_cells
  unfolding content_cells
  content_small n l = by (variable_at vs n).content (filled n)
    where
      by : (c : Option Composite) → ((x : Composite) → c ≡ some x → (x.body ≡ vars n) × Fitting x) → length (content_cells c) ≤ body_cells
      by none g = omega arith
      by (some x) g =
          let q = g x refl in
          omega (arith, length_cells q.1, ap size q.0, h.small n l)

  pub contents_small : Small vs
  contents_small = every_by no_variable vs content_small

  module _ (n : ℕ) (lt : n < length vs) where
    -- ---- its room
    pub cells_room : body_cells * n + body_cells ≤ length cells
    cells_room = omega (arith, ap (λ (l : List ℤ). length l) h.cells_are, cells_long vs, h.few, lt)

    long : states_length ≤ length states
    long = omega (arith, ap (λ (l : List ℕ). length l) h.states_are, states_long vs)

    pub word_room : yoke_place n < length states
    word_room = yoke_room states n long (omega (arith, h.few, lt))

    pub states_room : flag_place n < length states
    states_room = flag_room states n long (omega (arith, h.few, lt))

    -- ---- its two state words
    flag_is : flag_at states n ≡ filled_flag (variable_at vs n).content
    flag_is = ap (λ (l : List ℕ). flag_at l n) h.states_are ∙ flag_at_lem vs n lt

    pub unfilled_is : filled_at states n ≡ false → (variable_at vs n).content ≡ none
    unfolding filled_at
    unfilled_is e = by (variable_at vs n).content (sym flag_is ∙ eqb-true (flag_at states n) 0 (not-false (eqb (flag_at states n) 0) e))
      where
        by : (c : Option Composite) → filled_flag c ≡ 0 → c ≡ none
        by none q = refl
        by (some x) q = absurd (let k : ⊥ = omega arith in k)

    pub filled_is : filled_at states n ≡ true → (x : Composite) × ((variable_at vs n).content ≡ some x)
    unfolding filled_at
    filled_is e = by (variable_at vs n).content (λ q. eqb-false (flag_at states n) 0 (not-true (eqb (flag_at states n) 0) e) (flag_is ∙ q))
      where
        by : (c : Option Composite) → (filled_flag c ≡ 0 → ⊥) → (x : Composite) × (c ≡ some x)
        by none g = absurd (g refl)
        by (some x) g = (x, refl)

    word_is : yoke_at states n ≡ yoke_number (variable_at vs n).yoke
    word_is = ap (λ (l : List ℕ). yoke_at l n) h.states_are ∙ yoke_at_lem vs n lt

    module _ {rows : List ℕ} (y : YokeOf rows (variable_at vs n).yoke) where
      yoke_number_lem : yoke_at states n ≡ y.number
      yoke_number_lem = word_is ∙ ap yoke_number y.is ∙ number_of rows y.number

      pub yoke_there : yoke_at states n ≤ table_count rows expression_section
      yoke_there = omega (arith, yoke_number_lem, y.there)

      pub own_yoke : yoke_tree rows (yoke_at states n) ≡ (variable_at vs n).yoke
      own_yoke = ap (λ (k : ℕ). yoke_tree rows k) yoke_number_lem ∙ sym y.is

    -- ---- its value
    pub content_at : (x : Composite) → (variable_at vs n).content ≡ some x → take (size x.body) (drop (body_cells * n) cells) ≡ cells_of x.body x.value
    unfolding content_cells pad
    content_at x q =
        let f = filled n x q in
        let sm : size x.body ≤ body_cells = omega (arith, ap size f.0, h.small n lt) in
        ap (λ (l : List ℤ). take (size x.body) (drop (body_cells * n) l)) h.cells_are
        ∙ sym (take-take (size x.body) body_cells (drop (body_cells * n) (cells_in vs)) sm)
        ∙ ap (λ (l : List ℤ). take (size x.body) l) (cells_at vs n lt contents_small)
        ∙ ap (λ (c : Option Composite). take (size x.body) (pad body_cells (pos 0) (content_cells c))) q
        ∙ take_at (cells_of x.body x.value) _ (size x.body) (length_cells f.1)

    -- its 64 cells by themselves, as the code takes them
    pub part_lies : (x : Composite) → (variable_at vs n).content ≡ some x → Lies (take (body_cells * n + body_cells - body_cells * n) (drop (body_cells * n) cells)) 0 x.body x.value
    part_lies x q = let f = filled n x q in record {
      cells =
          take-take (size x.body) (body_cells * n + body_cells - body_cells * n) (drop (body_cells * n) cells) (omega (arith, ap size f.0, h.small n lt))
          ∙ content_at x q;
      fit = f.1;
    }
