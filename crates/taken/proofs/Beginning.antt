-- The store that a run starts with, as each way to run asks of it: no variable is filled, and each has a yoke of the profile; and what its calls
-- ask. Assumes nothing.
use mathlib.Core.Path.{◌≡◌, refl, sym, ap, ◌∙◌, subst}
use mathlib.Core.List.{List, []}
use mathlib.Core.Option.{some}
use Prim.Native.Nat.{ℕ, ◌/◌, ◌≤◌, ◌<◌}
use native.Mathlib.Omega.{arith}
use lib.IntN.{ℤ, pos}
use lib.ListN.{length, replicate}
use Rattle.lingua.specs.Numbers.{declaration_section, type_section, expression_section, layout_length, open_cells_length, open_states_length}
use Rattle.lingua.specs.Outcome.{ok}
use Rattle.lingua.specs.Body.{is_quantity}
use Rattle.lingua.specs.Rows.{table_count, pair_count}
use Rattle.lingua.specs.Store.{Limit, Variable, variable_at, present_body}
use Rattle.lingua.specs.Typing.{Entry, bodies_of, check_profile, layout_of}
use Rattle.lingua.specs.Trees.{declaration_in, declaration_at, profile_of}
use Rattle.lingua.specs.References.{yoke_in, declared_yoke}
use Rattle.laws.specs.Formed.{formed_bounds}
use Rattle.laws.specs.Outcomes.{none_is_some}
use Rattle.safety.specs.Accepted.{AcceptedRows, declared_root, profile_well_made}
use Rattle.safety.specs.Formed.{declared_formed, bodies_formed}
use Rattle.safety.specs.Invariant.{start_kept, start_empty}
use Rattle.safety.specs.Programs.{ReadsQuantity, start_fit}
use Rattle.safety.specs.Passed.{reads_quantity, profile_body}
use Rattle.safety.specs.Once.{profile_laid_out, rows_laid_out}
use Rattle.decoder.specs.Tables.{IsTable}
use Rattle.decoder.specs.declared.tables.Table.{Table}
use Rattle.rules.specs.Accepted.{counts}
use Rattle.rules.specs.Types.{BodiesBelow}
use Rattle.profile.specs.Variables.{VariablesKnown, scope_of}
use Rattle.profile.specs.Yokes.{YokeOf, every_yoke}
use Rattle.run.specs.Begun.{start_store, Begun}
use Rattle.run.specs.Kept.{BodiesKept}
use Rattle.run.specs.Started.{start_bodies}
use Rattle.run.proofs.Unfilled.{start_at}
use Rattle.run.specs.Reached.{Lent, lent}
use Rattle.checked_row.specs.Meaning.{Holdable}
use Rattle.checked_store.specs.Meaning.{Running as CheckedRunning}
use Rattle.erased_row.specs.Meaning.{Running as ErasedRunning}
use Rattle.frames.specs.Ways.{Way, checked, erased}
use Rattle.frames.specs.Meaning.{HoldsBy, WhollyPassed, CallableBy, BeginsBy, FreshBy}
use Rattle.opening.specs.Meaning.{setting}
use Rattle.whole_run.specs.Meaning.{ClearBodies, Clear, Ready}
use Rattle.taken.specs.Ways.{QuantitiesLimited, PassedRows, LendsBy, Lends}
use mathlib.Core.Bool.{true}

pub declarations_known : {rows bodies : List ℕ} {t : Table} → AcceptedRows rows → IsTable rows declaration_section t → BodiesBelow rows bodies (table_count rows type_section) → VariablesKnown rows t bodies
declarations_known accepted is held = record { scope = scope_of 0 (omega arith) is; accepted = accepted; held = held }

-- ---- the start's variables
module _ {rows limits : List ℕ} {kept cells : List ℤ} {states : List ℕ} (accepted : AcceptedRows rows) (b : Begun rows limits kept cells states) where
  few_variables : length (start_store rows limits) ≤ 16
  few_variables = omega (arith, b.count, (counts rows accepted.counts).variables.most)

  declared : {n : ℕ} → n < length (start_store rows limits) → n < pair_count rows declaration_section
  declared l = omega (arith, l, b.count)

  start_yoke : (n : ℕ) → n < length (start_store rows limits) → YokeOf rows (variable_at (start_store rows limits) n).yoke
  unfolding declaration_in yoke_in
  start_yoke n l =
      record { number = declared_yoke rows n; there = every_yoke (table_count rows expression_section) (declared_yoke rows n) (declared_root rows accepted n (declared l)); is = ap (λ (v : Variable). v.yoke) (start_at rows limits 0 (omega arith) n (declared l)) }

  -- ---- with the present bodies, which are the declared ones
  start_holdable : (n : ℕ) → n < length (start_store rows limits) → Holdable (present_body (variable_at (start_store rows limits) n))
  unfolding declaration_at
  start_holdable n l =
      let bounds = formed_bounds (declared_formed rows accepted limits n (declared l)) in
      subst (λ (v : Variable). Holdable (present_body v)) (sym (start_at rows limits 0 (omega arith) n (declared l))) (record { few_cells = bounds.few_cells; few_nodes = bounds.few_nodes })

  checked_start : (own : Table) → IsTable rows declaration_section own → {present : List ℕ} → BodiesKept rows own present (own.count / 2)
      → CheckedRunning rows kept (lent cells states present) (start_store rows limits)
  checked_start own is k =
      record {
        world = record {
          accepted = accepted;
          stored = record {
            cells_are = b.cells_are;
            states_are = b.states_are;
            bodies_are = start_bodies rows limits 0 (omega arith) own is k;
            few = few_variables;
            holdable = start_holdable;
            fits = λ n x e. none_is_some (sym (start_empty (profile_of rows limits).declarations n) ∙ e);
          };
        };
        room = omega (arith, few_variables, b.room);
        limited = b.limited;
        yokes = start_yoke;
      }

  checked_begins : {own : Table} → IsTable rows declaration_section own → {types present layout : List ℕ} {o : Lent} → BodiesBelow rows types (table_count rows type_section)
      → BodiesKept rows own present (own.count / 2) → layout ≡ [] → Clear checked o
      → Ready checked (setting rows layout kept types) (lent cells states present) o limits
  unfolding HoldsBy CallableBy
  checked_begins {own} is held k e o =
      record {
        holds = record { by = record { no_layout = e; running = checked_start own is k }; here = omega arith; count = b.count };
        callable = record { by = record { held = held } };
        clear = o;
      }

  -- ---- with the layout table
  limited_quantity : QuantitiesLimited rows limits → (n : ℕ) (l : Limit) → n < length (start_store rows limits) → (variable_at (start_store rows limits) n).limit ≡ some l → is_quantity (bodies_of (profile_of rows limits).declarations n) ≡ true
  unfolding declaration_at
  limited_quantity h n l i e = h.limited n (declared i) l (sym (ap (λ (v : Variable). v.limit) (start_at rows limits 0 (omega arith) n (declared i))) ∙ e)

  erased_start : (es : List Entry) → check_profile (profile_of rows limits) ≡ ok es → length (layout_of es) ≡ layout_length → QuantitiesLimited rows limits
      → ErasedRunning (profile_of rows limits) 0 rows (layout_of es) kept (lent cells states []) (start_store rows limits)
  erased_start es e long h =
      record {
        world = record {
          accepted = accepted;
          long = long;
          cells_are = b.cells_are;
          states_are = b.states_are;
          few = few_variables;
          small = λ n. (formed_bounds (bodies_formed rows accepted limits n)).few_cells;
          fit = start_fit (profile_of rows limits).declarations;
        };
        count = b.count;
        kept = start_kept (profile_well_made rows accepted limits 0).yokes;
        passed_yokes = (profile_laid_out rows accepted limits es e 0).yokes;
        passed_rows = rows_laid_out rows accepted limits es e;
        room = omega (arith, few_variables, b.room);
        limited = b.limited;
        limited_quantities = limited_quantity h;
        quantity_variables = λ z n q. unfold ReadsQuantity in reads_quantity rows limits (record { variable = n; number = pos 0 }) q;
        own_bodies = λ z n l. profile_body rows limits n l;
        yokes = start_yoke;
      }

  -- the type check passed the whole profile
  wholly_passed : {layout : List ℕ} → PassedRows rows limits layout → WhollyPassed (profile_of rows limits) rows layout
  wholly_passed {layout} p =
      subst (λ (x : List ℕ). WhollyPassed (profile_of rows limits) rows x) (sym p.layout_is)
      (record { limits = limits; is = refl; typed = profile_laid_out rows accepted limits p.entries p.passed })

  erased_begins : {layout types : List ℕ} {o : Lent} → PassedRows rows limits layout → QuantitiesLimited rows limits → Clear erased o
      → Ready erased (setting rows layout kept types) (lent cells states []) o limits
  unfolding HoldsBy CallableBy
  erased_begins {layout} p h o =
      let q = p.layout_is in
      record {
        holds = record {
          by = record { no_bodies = refl; running = subst (λ (x : List ℕ). ErasedRunning (profile_of rows limits) 0 rows x kept (lent cells states []) (start_store rows limits)) (sym q) (erased_start p.entries p.passed (sym (ap length q) ∙ p.long) h) };
          here = omega arith;
          count = b.count;
        };
        callable = record { by = wholly_passed p };
        clear = o;
      }

  -- ---- in either way, with what a run of that way is lent
  pub readies : (w : Way) {own : Table} → IsTable rows declaration_section own → {types present layout before area : List ℕ} {o : Lent} → Lends w rows limits layout types before area → FreshBy w rows own present → Clear w o → Ready w (setting rows layout kept types) (lent cells states present) o limits
  unfolding LendsBy FreshBy
  readies checked is l f o = checked_begins is l.by.held f l.by.no_layout o
  readies erased is {types = types} {layout = layout} {o = o'} l f o =
      subst (λ (x : List ℕ). Ready erased (setting rows layout kept types) (lent cells states x) o' limits) (sym f) (erased_begins l.by.passed l.by.limited o)

module _ {rows limits layout types own area : List ℕ} where
  -- ---- the room for the present bodies
  pub begins_by : (w : Way) → Lends w rows limits layout types own area → BeginsBy w rows types own
  unfolding BeginsBy LendsBy
  begins_by checked l = (record { held = l.by.held }, l.by.own_zeros)
  begins_by erased l = l.by.no_own

  -- ---- the area for calls, cleared
  clear_bodies : (w : Way) {bodies : List ℕ} → Lends w rows limits layout types own area → bodies ≡ replicate (length area) 0 → ClearBodies w bodies
  unfolding ClearBodies LendsBy
  clear_bodies checked l b = b ∙ ap (λ (x : ℕ). replicate x 0) l.by.long_area
  clear_bodies erased l b = b ∙ ap (λ (x : List ℕ). replicate (length x) 0) l.by.no_area

  pub clears : (w : Way) {cells : List ℤ} {states bodies : List ℕ} (n m : ℕ) → Lends w rows limits layout types own area → cells ≡ replicate n (pos 0) → states ≡ replicate m 0 → bodies ≡ replicate (length area) 0 → n ≡ open_cells_length → m ≡ open_states_length
      → Clear w (lent cells states bodies)
  clears w n m l c s b i j =
      record { cells_are = c ∙ ap (λ (x : ℕ). replicate x (pos 0)) i; states_are = s ∙ ap (λ (x : ℕ). replicate x 0) j; bodies_are = clear_bodies w l b }
