-- The first rule of both files: the earlier of the two files' own, then the rules of both together. Assumes nothing.
use mathlib.Core.Path.{◌≡◌, refl, sym, ap, ap₂, ◌∙◌, subst}
use mathlib.Core.Bool.{Bool, true, false, not}
use mathlib.Core.List.{List, [], ◌∷◌, ◌++◌, append_assoc, append-nil}
use Prim.Native.Nat.{ℕ, zero, suc, ◌<◌, ◌≤◌}
use native.Mathlib.Omega.{arith}
use lib.Dec.{eqb}
use lib.ListN.{length, take}
use borrow.Author.Tests.{eq-eqb, ne_eqb, lt-ltb, le-ltb}
use Rattle.lingua.specs.Numbers.{most_limits, type_section, limit_section}
use Rattle.std.specs.Prelude.{Result, Ok, Err}
use Rattle.lingua.specs.declared.errors.Refusal.{Refusal}
use Rattle.lingua.specs.Faults.{refusal_number, refusal_of}
use Rattle.lingua.specs.Errors.{models_differ, bad_limit}
use Rattle.lingua.specs.Value.{all_of}
use Rattle.lingua.specs.Rows.{table_count, pair_count}
use Rattle.lingua.specs.Format.{File, profile, limits, model_of, rows_of}
use Rattle.lingua.specs.Refusal.{Rule, rule, rank, place_in, lowest, file_rules, row_rules, whole_file_rules, limit_wrong, pair_rules}
use Rattle.laws.specs.Refusals.{lowest_nil, lowest_skip, lowest_first, Decides, first, second, decides}
use Rattle.laws.specs.Lowest.{lesser, lowest_append}
use Rattle.laws.specs.Accepted.{few_limits}
use Rattle.safety.specs.Accepted.{AcceptedRows, accepted_rows}
use Rattle.pair.proofs.Returns.{none_of_either, header_there}
use Rattle.pair.specs.Taken.{RowsTaken, TakenIs}
use Rattle.pair.specs.declared.file.Taken.{Taken}
use Rattle.decoder.specs.Tables.{AreTables}
use Rattle.rules.specs.Types.{BodiesBelow}
use Rattle.profile.specs.Find.{LimitsRead, LimitsOwned, owned_as}
use Rattle.pair.specs.declared.Pair.{Pair}
use Rattle.pair.specs.Pair.{TakenPair, PairIs, BothTaken}

-- ---- the earlier of two refusals
pub lower_first : (a b : ℕ) → (a ≡ 0 → ⊥) → b ≡ 0 → a ≡ lesser a b
unfolding lesser
lower_first zero b h e = absurd (h refl)
lower_first (suc a) zero h e = refl
lower_first (suc a) (suc b) h e = absurd (let z : ⊥ = omega (arith, e) in z)

pub lower_none : (a b : ℕ) → a ≡ 0 → b ≡ lesser a b
unfolding lesser
lower_none zero b e = refl
lower_none (suc a) b e = absurd (let z : ⊥ = omega (arith, e) in z)

pub lower_less : (a b : ℕ) → (a ≡ 0 → ⊥) → (b ≡ 0 → ⊥) → rank a < rank b → a ≡ lesser a b
unfolding lesser
lower_less zero b h k l = absurd (h refl)
lower_less (suc a) zero h k l = absurd (k refl)
lower_less (suc a) (suc b) h k l = rw (lt-ltb (rank (suc a)) (rank (suc b)) l)

pub lower_other : (a b : ℕ) → (a ≡ 0 → ⊥) → (b ≡ 0 → ⊥) → rank b ≤ rank a → b ≡ lesser a b
unfolding lesser
lower_other zero b h k l = absurd (h refl)
lower_other (suc a) zero h k l = absurd (k refl)
lower_other (suc a) (suc b) h k l = rw (le-ltb (rank (suc a)) (rank (suc b)) l)

-- ---- both files, or the earlier of their refusals
right : Taken → Result Taken Refusal
right t = Ok t

pub both_there : (p l : Taken) → BothTaken (Ok (p, l)) (Ok p) (Ok l)
unfolding lesser right
both_there p l = record { refusal = refl; taken = λ t q. let e : ◌≡◌ {A = Taken × Taken} (p, l) t = cc in (ap (λ (u : Taken × Taken). right u.0) e, ap (λ (u : Taken × Taken). right u.1) e) }

pub one_refused : (p l : Result Taken Refusal) (e : Refusal) → refusal_number e ≡ lesser (refusal_of p) (refusal_of l) → BothTaken (Err e) p l
one_refused p l e h = record { refusal = h; taken = λ t q. cc }

-- ---- the rules of both files together
abbrev both : List ℕ → List ℕ → List Rule
both prof lims = rule models_differ (not (eqb (model_of prof) (model_of lims))) ∷ rule bad_limit (limit_wrong (rows_of prof) (rows_of lims)) ∷ []

abbrev own : List ℕ → List ℕ → List Rule
own prof lims = whole_file_rules profile prof ++ whole_file_rules limits lims

pair_parts : (prof lims : List ℕ) → pair_rules prof lims ≡ own prof lims ++ both prof lims
unfolding pair_rules
pair_parts prof lims = sym (append_assoc (whole_file_rules profile prof) (whole_file_rules limits lims) (both prof lims))

own_lowest : (prof lims : List ℕ) → lowest (own prof lims) ≡ lesser (lowest (whole_file_rules profile prof)) (lowest (whole_file_rules limits lims))
unfolding whole_file_rules file_rules row_rules all_of rank place_in
own_lowest prof lims = lowest_append (whole_file_rules profile prof) (whole_file_rules limits lims) refl

own_decides : (prof lims : List ℕ) → Decides 19 (own prof lims) (both prof lims)
unfolding whole_file_rules file_rules row_rules all_of rank place_in
own_decides prof lims = decides 19 (own prof lims) (both prof lims) refl refl

module _ (prof lims : List ℕ) (p l : ℕ) (hp : p ≡ lowest (whole_file_rules profile prof)) (hl : l ≡ lowest (whole_file_rules limits lims)) where
  lesser_own : lesser p l ≡ lowest (own prof lims)
  lesser_own = rw (hp, hl) (sym (own_lowest prof lims))

  pub pair_own : (n : ℕ) → n ≡ lesser p l → (n ≡ 0 → ⊥) → n ≡ lowest (pair_rules prof lims)
  pair_own n e h = rw (pair_parts prof lims) (go (own_decides prof lims))
    where
      go : Decides 19 (own prof lims) (both prof lims) → n ≡ lowest (own prof lims ++ both prof lims)
      go (second z d) = absurd (h (e ∙ lesser_own ∙ z))
      go (first a b d) = e ∙ lesser_own ∙ sym d

  pair_both : lesser p l ≡ 0 → lowest (pair_rules prof lims) ≡ lowest (both prof lims)
  pair_both z = rw (pair_parts prof lims) (go (own_decides prof lims))
    where
      go : Decides 19 (own prof lims) (both prof lims) → lowest (own prof lims ++ both prof lims) ≡ lowest (both prof lims)
      go (second y d) = d
      go (first a b d) = absurd (let k : ⊥ = omega (arith, sym lesser_own ∙ z) in k)

  pub pair_models : lesser p l ≡ 0 → (model_of prof ≡ model_of lims → ⊥) → models_differ ≡ lowest (pair_rules prof lims)
  unfolding all_of rank place_in
  pair_models z h = sym (pair_both z ∙ lowest_first models_differ _ (rule bad_limit (limit_wrong (rows_of prof) (rows_of lims)) ∷ []) (ap not (ne_eqb (model_of prof) (model_of lims) h)) refl)

  past_models : lesser p l ≡ 0 → model_of prof ≡ model_of lims → lowest (pair_rules prof lims) ≡ lowest (rule bad_limit (limit_wrong (rows_of prof) (rows_of lims)) ∷ [])
  past_models z e = pair_both z ∙ lowest_skip models_differ _ (rule bad_limit (limit_wrong (rows_of prof) (rows_of lims)) ∷ []) (ap not (eq-eqb (model_of prof) (model_of lims) e))

  pub pair_limits : lesser p l ≡ 0 → model_of prof ≡ model_of lims → limit_wrong (rows_of prof) (rows_of lims) ≡ true → bad_limit ≡ lowest (pair_rules prof lims)
  unfolding all_of
  pair_limits z e w = sym (past_models z e ∙ lowest_first bad_limit _ [] w refl)

  pub pair_fine : lesser p l ≡ 0 → model_of prof ≡ model_of lims → limit_wrong (rows_of prof) (rows_of lims) ≡ false → 0 ≡ lowest (pair_rules prof lims)
  pair_fine z e w = sym (past_models z e ∙ lowest_skip bad_limit _ [] w ∙ lowest_nil)

-- ---- the ways in which both files are taken
pub pair_refused : {e : Refusal} {prof lims : List ℕ} (areas others bodies : List ℕ) → refusal_number e ≡ lowest (pair_rules prof lims) → PairIs (Err e) prof lims areas others bodies
pair_refused areas others bodies h = record { refusal = h; taken = λ t q. cc }

pub accepted_file : (prof : List ℕ) → lowest (row_rules profile (rows_of prof)) ≡ 0 → AcceptedRows (rows_of prof)
accepted_file prof e = accepted_rows (rows_of prof) [] (ap lowest (append-nil (row_rules profile (rows_of prof))) ∙ e)

-- what both were asked for
pub taken_p : {p l : Result Taken Refusal} {prof areas bodies : List ℕ} {f : File} (t : Taken × Taken) → TakenIs p f prof areas bodies → BothTaken (Ok t) p l → TakenIs (Ok t.0) f prof areas bodies
taken_p {prof = prof} {areas = areas} {bodies = bodies} {f = f} t h b = subst (λ (q : Result Taken Refusal). TakenIs q f prof areas bodies) (b.taken t refl).0 h

pub taken_l : {p l : Result Taken Refusal} {lims others front : List ℕ} {f : File} (t : Taken × Taken) → TakenIs l f lims others front → BothTaken (Ok t) p l → TakenIs (Ok t.1) f lims others front
taken_l {lims = lims} {others = others} {front = front} {f = f} t h b = subst (λ (q : Result Taken Refusal). TakenIs q f lims others front) (b.taken t refl).1 h

module _ (p l : Taken) (prof lims areas others bodies front : List ℕ) (hp : TakenIs (Ok p) profile prof areas bodies) (hl : TakenIs (Ok l) limits lims others front) where
  abbrev tp : RowsTaken p profile prof areas bodies
  tp = hp.taken p refl

  abbrev tl : RowsTaken l limits lims others front
  tl = hl.taken l refl

  none_of_two : lesser 0 0 ≡ 0
  unfolding lesser
  none_of_two = refl

  pub rows_within : p.length ≤ length areas
  rows_within = tp.within

  pub limits_within : l.length ≤ length others
  limits_within = tl.within

  pub profile_header : 8 ≤ length prof
  profile_header = header_there profile prof (none_of_either profile prof hp.refusal).0

  pub limits_header : 8 ≤ length lims
  limits_header = header_there limits lims (none_of_either limits lims hl.refusal).0

  -- what rule 15 is asked of
  pub rows_accepted : AcceptedRows (take p.length areas)
  rows_accepted = subst (λ (rows : List ℕ). AcceptedRows rows) (sym tp.rows) (accepted_file prof (none_of_either profile prof hp.refusal).1)

  pub tables_there : AreTables (take p.length areas) p.tables
  tables_there = subst (λ (rows : List ℕ). AreTables rows p.tables) (sym tp.rows) tp.tables

  pub limit_tables_there : AreTables (take l.length others) l.tables
  limit_tables_there = subst (λ (rows : List ℕ). AreTables rows l.tables) (sym tl.rows) tl.tables

  limits_few : pair_count (take l.length others) limit_section ≤ most_limits
  limits_few = subst (λ (rows : List ℕ). pair_count rows limit_section ≤ most_limits) (sym tl.rows) (few_limits (rows_of lims) (none_of_either limits lims hl.refusal).1)

  pub limits_read : LimitsRead (take l.length others)
  limits_read = record { few = limits_few }

  pub bodies_there : BodiesBelow (take p.length areas) bodies (table_count (take p.length areas) type_section)
  bodies_there = subst (λ (rows : List ℕ). BodiesBelow rows bodies (table_count rows type_section)) (sym tp.rows) (tp.held refl)

  pub models_wrong : (model_of prof ≡ model_of lims → ⊥) → models_differ ≡ lowest (pair_rules prof lims)
  models_wrong h = pair_models prof lims 0 0 hp.refusal hl.refusal none_of_two h

  module _ (r : Bool) (wrong : r ≡ limit_wrong (take p.length areas) (take l.length others)) (models : model_of prof ≡ model_of lims) where
    wrong_is : r ≡ limit_wrong (rows_of prof) (rows_of lims)
    wrong_is = wrong ∙ ap₂ limit_wrong tp.rows tl.rows

    pub pair_wrong : r ≡ true → bad_limit ≡ lowest (pair_rules prof lims)
    pair_wrong e = pair_limits prof lims 0 0 hp.refusal hl.refusal none_of_two models (sym wrong_is ∙ e)

    pub pair_done : (owners : List ℕ) → (r ≡ false → LimitsOwned (take p.length areas) (take l.length others) owners) → r ≡ false
        → PairIs (Ok (record { profile = p; limits = l; owners = owners })) prof lims areas others bodies
    pair_done owners owned e =
        let pair : Pair = record { profile = p; limits = l; owners = owners } in
        let k : TakenPair pair prof lims areas others bodies = record {
          rows = tp.rows;
          within = tp.within;
          tables = tp.tables;
          limits = tl.rows;
          within_others = tl.within;
          limit_tables = tl.tables;
          limited = owned_as tp.rows tl.rows (owned e);
          held = tp.held refl;
        } in
        record {
          refusal = pair_fine prof lims 0 0 hp.refusal hl.refusal none_of_two models (sym wrong_is ∙ e);
          taken = λ t q. let s : ◌≡◌ {A = Pair} pair t = cc in subst (λ (x : Pair). TakenPair x prof lims areas others bodies) s k;
        }
