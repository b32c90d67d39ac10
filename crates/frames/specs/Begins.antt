-- Memory at a scope's start holds the variables that the definition begins with, in each way to run: `checked_begins`, `erased_begins` for any
-- scope, the profile's with its limits (`own_starts`) or a procedure's without (`procedure_starts`); and `frame_begins` for a call. Assumes
-- nothing.
use Rattle.std.specs.Prelude.{◌≡◌, refl, ℕ, zero, suc, ◌*◌, ◌/◌, ◌≤◌, ◌<◌, ℤ, replicate, true}
use Rattle.std.proofs.Common.{sym, ◌∙◌, arith}
use Rattle.std.proofs.Math.Path.{ap, subst}
use mathlib.Core.List.{List, []}
use Rattle.std.proofs.Math.Option.{Option, some, none}
use Rattle.std.proofs.Math.IntN.{pos}
use Rattle.std.proofs.Math.ListN.{length, get_or, length-replicate}
use Rattle.lingua.specs.Numbers.{expression_section, instruction_section, variable_table, scope_table, cells_length, layout_length, limit_cells, limit_cells_length, most_variables}
use Rattle.lingua.specs.Body.{is_quantity}
use Rattle.lingua.specs.Rows.{table_count, pair_count, procedure_count}
use Rattle.lingua.specs.Store.{Limit, Variable, variable_at, present_body, cells_in, states_in, bodies_in}
use Rattle.lingua.specs.Run.{Profile, procedure_at, begun, scope_declarations}
use Rattle.lingua.specs.Typing.{scope_bodies}
use Rattle.lingua.specs.Trees.{declaration_in, instruction_tree, instruction_scope, profile_of}
use Rattle.lingua.specs.References.{yoke_in}
use Rattle.laws.specs.Formed.{formed_bounds}
use Rattle.laws.specs.Outcomes.{none_is_some}
use Rattle.safety.specs.Accepted.{AcceptedRows, few_variables, scope_root, profile_well_made}
use Rattle.safety.specs.Formed.{scope_formed, scope_bodies_formed}
use Rattle.safety.specs.Invariant.{start_kept, start_empty}
use Rattle.safety.specs.Layout.{HoldsIn}
use Rattle.safety.specs.Derivation.{DerivedRow}
use Rattle.safety.specs.Passed.{reads_quantity, profile_body}
use Rattle.safety.specs.Programs.{TypedProfile, ReadsQuantity, start_fit}
use Rattle.decoder.specs.Tables.{IsTable}
use Rattle.decoder.specs.declared.tables.Table.{Table}
use Rattle.profile.specs.Variables.{LimitAt}
use Rattle.profile.specs.Yokes.{YokeOf, every_yoke}
use Rattle.run.specs.Begun.{scope_start, Begun}
use Rattle.run.specs.Kept.{YokesKept}
use Rattle.run.specs.Started.{start_states, start_bodies}
use Rattle.run.specs.Reached.{Lent, lent}
use Rattle.run.proofs.Unfilled.{start_count, start_at, start_cells}
use Rattle.checked_row.specs.Meaning.{Holdable}
use Rattle.frames.specs.Ways.{Way, checked, erased}
use Rattle.frames.specs.Meaning.{Context, context, HoldsBy, Holds, procedures_in, CallableBy, Callable, FreshBy, Fresh}

-- ---- memory at a scope's start
-- cells and state words of the variables that the scope begins with, and three cells for each one's limit
pub record Starts (rows lims : List ℕ) (a : ℕ) (kept cells : List ℤ) (states : List ℕ) : Type 0 where
  pub there : a ≤ procedure_count rows
  pub cells_are : cells ≡ cells_in (scope_start rows lims a)
  pub states_are : states ≡ states_in (scope_start rows lims a)
  pub room : limit_cells_length ≤ length kept
  pub limited : (n : ℕ) → n < length (scope_start rows lims a) → LimitAt kept (limit_cells * n) (variable_at (scope_start rows lims a) n).limit

-- the profile's own
pub own_starts : {rows lims : List ℕ} {kept cells : List ℤ} {states : List ℕ} → Begun rows lims kept cells states → Starts rows lims 0 kept cells states
own_starts b = record { there = omega arith; cells_are = b.cells_are; states_are = b.states_are; room = omega (arith, b.room); limited = b.limited }

zero_at : (n i : ℕ) → get_or (replicate n (pos 0)) i (pos 0) ≡ pos 0
zero_at zero i = refl
zero_at (suc n) zero = refl
zero_at (suc n) (suc i) = zero_at n i

-- a procedure's, whose variables have no limits
module _ (rows lims : List ℕ) (k : ℕ) (l : k < procedure_count rows) where
  pub procedure_limit : (n : ℕ) → n < length (scope_start rows lims (suc k)) → (variable_at (scope_start rows lims (suc k)) n).limit ≡ none
  unfolding declaration_in
  procedure_limit n i = ap (λ (v : Variable). v.limit) (start_at rows lims (suc k) l n (omega (arith, start_count rows lims (suc k) l)))

  pub procedure_starts : AcceptedRows rows → (t : Table) → IsTable rows (variable_table k) t → {kept cells : List ℤ} {states : List ℕ} → kept ≡ replicate limit_cells_length (pos 0)
      → cells ≡ replicate cells_length (pos 0) → YokesKept rows t states (t.count / 2) → Starts rows lims (suc k) kept cells states
  unfolding LimitAt
  procedure_starts accepted t is {kept} {cells} e z y =
      record {
        there = l;
        cells_are = start_cells rows lims (suc k) cells accepted l z;
        states_are = start_states rows lims (suc k) l t is y;
        room = omega (arith, ap (λ (x : List ℤ). length x) e, length-replicate limit_cells_length (pos 0));
        limited = λ n i. subst (λ (o : Option Limit). LimitAt kept (limit_cells * n) o) (sym (procedure_limit n i)) (ap (λ (x : List ℤ). get_or x (limit_cells * n) (pos 0)) e ∙ zero_at limit_cells_length (limit_cells * n));
      }

-- ---- in each way
module _ {rows lims : List ℕ} {a : ℕ} {kept cells : List ℤ} {states : List ℕ} (accepted : AcceptedRows rows) (s : Starts rows lims a kept cells states) where
  abbrev store : List Variable
  store = scope_start rows lims a

  count : length store ≡ pair_count rows (scope_table a)
  count = start_count rows lims a s.there

  few : length store ≤ most_variables
  few = omega (arith, count, few_variables rows accepted a s.there)

  declared : {n : ℕ} → n < length store → n < pair_count rows (scope_table a)
  declared i = omega (arith, i, count)

  start_yoke : (n : ℕ) → n < length store → YokeOf rows (variable_at store n).yoke
  unfolding declaration_in yoke_in
  start_yoke n i =
      record { number = yoke_in rows (scope_table a) n; there = every_yoke (table_count rows expression_section) (yoke_in rows (scope_table a) n) (scope_root rows accepted a s.there n (declared i)); is = ap (λ (v : Variable). v.yoke) (start_at rows lims a s.there n (declared i)) }

  -- ---- with the present bodies, which are the declared ones
  start_holdable : (n : ℕ) → n < length store → Holdable (present_body (variable_at store n))
  unfolding declaration_in
  start_holdable n i =
      let bounds = formed_bounds (scope_formed rows accepted a s.there n (declared i)) in
      subst (λ (v : Variable). Holdable (present_body v)) (sym (start_at rows lims a s.there n (declared i))) (record { few_cells = bounds.few_cells; few_nodes = bounds.few_nodes })

  pub checked_begins : (p : Profile) → {layout present : List ℕ} → layout ≡ [] → present ≡ bodies_in (scope_start rows lims a)
      → Holds checked p a (context rows layout kept) (lent cells states present) (scope_start rows lims a)
  unfolding HoldsBy
  checked_begins p q b =
      record {
        by = record {
          no_layout = q;
          running = record {
            world = record {
              accepted = accepted;
              stored = record {
                cells_are = s.cells_are;
                states_are = s.states_are;
                bodies_are = b;
                few = few;
                holdable = start_holdable;
                fits = λ n x g. none_is_some (sym (start_empty (scope_declarations (profile_of rows lims) a) n) ∙ g);
              };
            };
            room = omega (arith, few, s.room);
            limited = s.limited;
            yokes = start_yoke;
          };
        };
        here = s.there;
        count = count;
      }

  -- ---- with the layout table, of a profile that the type check passed; what has a limit is reckoned with
  pub erased_begins : {layout : List ℕ} → length layout ≡ layout_length → TypedProfile (HoldsIn layout) (profile_of rows lims)
      → ((r : ℕ) → r < table_count rows instruction_section → DerivedRow (HoldsIn layout) (λ k. scope_bodies (profile_of rows lims) (suc k)) (scope_bodies (profile_of rows lims) (instruction_scope rows r)) (instruction_tree rows r))
      → ((n : ℕ) (b : Limit) → n < length (scope_start rows lims a) → (variable_at (scope_start rows lims a) n).limit ≡ some b → is_quantity (scope_bodies (profile_of rows lims) a n) ≡ true)
      → Holds erased (profile_of rows lims) a (context rows layout kept) (lent cells states []) (scope_start rows lims a)
  unfolding HoldsBy
  erased_begins long typed derived numbers =
      record {
        by = record {
          no_bodies = refl;
          running = record {
            world = record {
              accepted = accepted;
              long = long;
              cells_are = s.cells_are;
              states_are = s.states_are;
              few = few;
              small = λ n. (formed_bounds (scope_bodies_formed rows accepted lims a n)).few_cells;
              fit = start_fit (scope_declarations (profile_of rows lims) a);
            };
            count = count;
            kept = start_kept (profile_well_made rows accepted lims a).yokes;
            passed_yokes = (typed a).yokes;
            passed_rows = derived;
            room = omega (arith, few, s.room);
            limited = s.limited;
            limited_quantities = numbers;
            quantity_variables = λ z n q. unfold ReadsQuantity in reads_quantity rows lims (record { variable = n; number = pos 0 }) q;
            own_bodies = λ z n l. profile_body rows lims n l;
            yokes = start_yoke;
          };
        };
        here = s.there;
        count = count;
      }

-- ---- a call's
-- under other limits it may be called as well
pub callable_under : (w : Way) {p : Profile} {c : Context} {types : List ℕ} (limits : List ℤ) → Callable w p c types → Callable w p (context c.rows c.layout limits) types
unfolding CallableBy
callable_under checked limits k = record { by = k.by }
callable_under erased limits k = record { by = k.by }

-- procedure k is called from where the variables of some scope lie in memory
pub frame_begins : (w : Way) {p : Profile} {a : ℕ} {c : Context} {types : List ℕ} {l : Lent} {vs : List Variable} → Callable w p c types → Holds w p a c l vs
    → (k : ℕ) → k < procedure_count c.rows → (t : Table) → IsTable c.rows (variable_table k) t
    → {limits cells : List ℤ} {states bodies : List ℕ} → limits ≡ replicate limit_cells_length (pos 0) → cells ≡ replicate cells_length (pos 0) → Fresh w c.rows t states bodies
    → Holds w p (suc k) (context c.rows c.layout limits) (lent cells states bodies) (begun (procedure_at (procedures_in c.rows) k).variables)
unfolding HoldsBy FreshBy CallableBy begun profile_of
frame_begins checked {p} {c = c} callable h k i t is {limits} {cells} {states} {bodies} e z f =
    let running = h.by.running in
    let accepted = running.world.accepted in
    checked_begins accepted (procedure_starts c.rows [] k i accepted t is e z f.yokes) p h.by.no_layout
    (start_bodies c.rows [] (suc k) i t is f.present)
frame_begins erased {p} {c = c} callable h k i t is {limits} {cells} {states} {bodies} e z f =
    let passed = callable.by in
    let running = h.by.running in
    let accepted = running.world.accepted in
    let lims = passed.limits in
    let same = passed.is in
    subst (λ (b : List ℕ). Holds erased p (suc k) (context c.rows c.layout limits) (lent cells states b) (scope_start c.rows lims (suc k))) (sym f.present)
    (subst (λ (q : Profile). Holds erased q (suc k) (context c.rows c.layout limits) (lent cells states []) (scope_start c.rows lims (suc k))) (sym same)
    (erased_begins accepted (procedure_starts c.rows lims k i accepted t is e z f.yokes) running.world.long
    (subst (λ (q : Profile). TypedProfile (HoldsIn c.layout) q) same passed.typed)
    (subst
    (λ (q : Profile). (r : ℕ) → r < table_count c.rows instruction_section → DerivedRow (HoldsIn c.layout) (λ j. scope_bodies q (suc j)) (scope_bodies q (instruction_scope c.rows r)) (instruction_tree c.rows r))
    same running.passed_rows)
    (λ n b j q. none_is_some (sym (procedure_limit c.rows lims k i n j) ∙ q))))
