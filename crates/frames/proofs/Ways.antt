-- What one way's code gives, as what is asked of either way. Assumes nothing.
use mathlib.Core.Path.{◌≡◌, refl, sym, ◌∙◌, subst}
use mathlib.Core.List.{List, []}
use Prim.Native.Nat.{ℕ, ◌<◌}
use native.Mathlib.Omega.{arith}
use lib.IntN.{ℤ}
use lib.ListN.{length}
use Rattle.lingua.specs.Numbers.{declaration_section, scope_table}
use Rattle.lingua.specs.Outcome.{ok, Result as Outcome}
use Rattle.lingua.specs.Rows.{pair_count}
use Rattle.lingua.specs.Store.{Variable, contents, assigned, copied, reading_taken}
use Rattle.lingua.specs.Run.{Profile}
use Rattle.lingua.specs.Typing.{scope_bodies}
use Rattle.lingua.specs.Evaluation.{eval_test}
use Rattle.lingua.specs.Trees.{expression_tree}
use Rattle.std.specs.Prelude.{Bool, Result}
use Rattle.lingua.specs.declared.errors.Error.{Error}
use Rattle.run.specs.Reached.{Lent, lent, Holding, Settles, Tells}
use Rattle.run.specs.Memory.{reading}
use Rattle.checked_row.specs.Meaning.{Stored, HasStored}
use Rattle.checked_store.specs.Meaning.{Running as CheckedRunning, HasRunning as CheckedHas}
use Rattle.erased_row.specs.Meaning.{Running as ErasedRunning, HasRunning as ErasedHas, HasStore, TestRow}
use Rattle.erased_store.specs.Meaning.{HasCopy}
use Rattle.frames.specs.Ways.{Way, checked, erased}
use Rattle.frames.specs.Meaning.{Context, CheckedIn, ErasedIn, HoldsBy, Holds, Standing, StandsUnder, Stores, TellsTest, Pair, HasFacing, Copies}
use Rattle.frames.proofs.Lengths.{copied_long}

-- what is asked of the memory may be exchanged for what follows from it
settles_as : {r : ℕ} {M N : Holding} {l after : Lent} {p : Outcome (List Variable)} → ((vs : List Variable) → p ≡ ok vs → M after vs → N after vs) → Settles r M l after p → Settles r N l after p
settles_as f h =
    record { answer = λ e. let a = h.answer e in record { store = a.store; is = a.is; running = f a.store a.is a.running }; error = h.error }

-- a reading's variable is one of the profile's, and so of its store
pub read : (rows : List ℕ) (vs : List Variable) {a n : ℕ} → length vs ≡ pair_count rows (scope_table a) → a ≡ 0 → n < pair_count rows declaration_section → n < length vs
read rows vs {a} {n} k e l = omega (arith, k, subst (λ (b : ℕ). n < pair_count rows (scope_table b)) (sym e) l)

-- ---- the checked way
checked_in : {p : Profile} {a : ℕ} {c : Context} {l : Lent} {vs : List Variable} → Holds checked p a c l vs → CheckedIn c l vs
unfolding HoldsBy
checked_in h = h.by

pub checked_running : {p : Profile} {a : ℕ} {c : Context} {l : Lent} {vs : List Variable} → Holds checked p a c l vs → CheckedRunning c.rows c.limits l vs
checked_running h = (checked_in h).running

-- the scope stays, with as many variables
checked_again : {p : Profile} {a : ℕ} {c : Context} {l after : Lent} {vs ws : List Variable} → Holds checked p a c l vs → length ws ≡ length vs → CheckedRunning c.rows c.limits after ws
    → Holds checked p a c after ws
unfolding HoldsBy
checked_again {p} {a} {c} {l} {after} {vs} {ws} h k g = record {
  by = record { no_layout = (checked_in h).no_layout; running = g };
  here = h.here;
  count = k ∙ h.count;
}

pub checked_stores : {c : Context} {l after : Lent} {r : ℕ} (P : ℕ → Type 0) (f : List Variable → Outcome (List Variable)) → ((vs ws : List Variable) → f vs ≡ ok ws → length ws ≡ length vs)
    → ((a : ℕ) (vs : List Variable) → P a → CheckedRunning c.rows c.limits l vs → length vs ≡ pair_count c.rows (scope_table a)
    → Settles r (CheckedRunning c.rows c.limits) l after (f vs)) → Stores checked c l after r P f
checked_stores P f long h = record { settles = λ p a vs q k. settles_as (λ ws is g. checked_again k (long vs ws is) g) (h a vs q (checked_running k) k.count) }

pub checked_tells : {c : Context} {l : Lent} {n : ℕ} {r : Result Bool Error} → ((vs : List Variable) → CheckedRunning c.rows c.limits l vs → Tells r (eval_test (expression_tree c.rows n) (contents vs)))
    → TellsTest checked c l n r
checked_tells h = record { tells = λ p a vs q k. h vs (checked_running k) }

pub checked_copies : {from : Lent} {c : Context} {to after : Lent} {n m r : ℕ}
    → ((vs ws : List Variable) → Stored from.bodies from.cells from.states vs → CheckedRunning c.rows c.limits to ws → m < length ws
    → Settles r (CheckedRunning c.rows c.limits) to after (copied assigned vs n ws m)) → Copies checked from c to after n m r
checked_copies {n = n} {m} h = record {
  settles = λ p a b limits vs ws f q.
      settles_as (λ us is g. checked_again f.takes (copied_long vs n ws m us is) g) (h vs ws (checked_running f.gives).world.stored (checked_running f.takes) q.to);
}

pub checked_gives : {from : Lent} {c : Context} {to : Lent} {room n m : ℕ} → HasFacing checked from c to room (λ p a b vs ws. Pair checked p a b vs ws n m) → HasStored from.bodies from.cells from.states n
checked_gives f =
    let s = (checked_running f.facing.gives).world.stored in
    record { store = f.given; stored = s; there = omega (arith, s.few, f.property.from) }

pub checked_takes : {from : Lent} {c : Context} {to : Lent} {room n m : ℕ} → HasFacing checked from c to room (λ p a b vs ws. Pair checked p a b vs ws n m)
    → CheckedHas c.rows c.limits to m
checked_takes f = record { store = f.taken; running = checked_running f.facing.takes; there = f.property.to }

-- ---- the erased way, whose code speaks of memory without bodies
erased_in : {p : Profile} {a : ℕ} {c : Context} {l : Lent} {vs : List Variable} → Holds erased p a c l vs → ErasedIn p a c l vs
unfolding HoldsBy
erased_in h = h.by

module _ {cells : List ℤ} {states bodies : List ℕ} where
  pub erased_running : {p : Profile} {a : ℕ} {c : Context} {vs : List Variable} → Holds erased p a c (lent cells states bodies) vs
      → ErasedRunning p a c.rows c.layout c.limits (lent cells states []) vs
  erased_running {p} {a} {c} {vs} h =
      let q = erased_in h in
      subst (λ (b : List ℕ). ErasedRunning p a c.rows c.layout c.limits (lent cells states b) vs) q.no_bodies q.running

  pub erased_standing : {c : Context} {room : ℕ} {P : ℕ → Type 0} → Standing erased c (lent cells states bodies) room P → ErasedHas c.rows c.layout c.limits (lent cells states []) P
  erased_standing s = record { profile = s.profile; scope = s.scope; store = s.store; running = erased_running s.holds; of_scope = s.of_scope }

  pub under_standing : {rows layout : List ℕ} {room : ℕ} {P : ℕ → Type 0} → StandsUnder erased rows layout (lent cells states bodies) room P → HasStore rows layout (lent cells states []) P
  under_standing s = record { limits = s.limits; has = erased_standing s.standing }

  -- the scope stays, with as many variables, and there are still no bodies
  module _ {cells' : List ℤ} {states' : List ℕ} where
    erased_again : {p : Profile} {a : ℕ} {c : Context} {vs ws : List Variable} → Holds erased p a c (lent cells states bodies) vs → length ws ≡ length vs
        → ErasedRunning p a c.rows c.layout c.limits (lent cells' states' []) ws → Holds erased p a c (lent cells' states' []) ws
    unfolding HoldsBy
    erased_again {p} {a} {c} {vs} {ws} h k g = record {
      by = record { no_bodies = refl; running = g };
      here = h.here;
      count = k ∙ h.count;
    }

  module _ {cells' : List ℤ} {states' bodies' : List ℕ} where
    erased_settles : {p : Profile} {a : ℕ} {c : Context} {vs : List Variable} {r : ℕ} (o : Outcome (List Variable)) → bodies' ≡ bodies → Holds erased p a c (lent cells states bodies) vs
        → ((ws : List Variable) → o ≡ ok ws → length ws ≡ length vs)
        → Settles r (ErasedRunning p a c.rows c.layout c.limits) (lent cells states []) (lent cells' states' []) o
        → Settles r (Holds erased p a c) (lent cells states bodies) (lent cells' states' bodies') o
    erased_settles {p} {a} {c} {vs} {r} o same k long h =
        subst (λ (b : List ℕ). Settles r (Holds erased p a c) (lent cells states bodies) (lent cells' states' b) o) (sym same)
        (subst (λ (b : List ℕ). Settles r (Holds erased p a c) (lent cells states b) (lent cells' states' b) o) (sym (erased_in k).no_bodies)
        (settles_as (λ ws is g. erased_again k (long ws is) g) h))

    pub erased_stores : {c : Context} {r : ℕ} (P : ℕ → Type 0) (f : List Variable → Outcome (List Variable)) → ((vs ws : List Variable) → f vs ≡ ok ws → length ws ≡ length vs) → bodies' ≡ bodies
        → ((p : Profile) (a : ℕ) (vs : List Variable) → ErasedRunning p a c.rows c.layout c.limits (lent cells states []) vs → P a
        → Settles r (ErasedRunning p a c.rows c.layout c.limits) (lent cells states []) (lent cells' states' []) (f vs))
        → Stores erased c (lent cells states bodies) (lent cells' states' bodies') r P f
    erased_stores P f long same h = record { settles = λ p a vs q k. erased_settles (f vs) same k (long vs) (h p a vs (erased_running k) q) }

    -- a reading is asked of the profile's variables alone
    pub erased_reads : {c : Context} {r : ℕ} (f : List Variable → Outcome (List Variable)) → ((vs ws : List Variable) → f vs ≡ ok ws → length ws ≡ length vs) → bodies' ≡ bodies
        → ((p : Profile) (vs : List Variable) → ErasedRunning p 0 c.rows c.layout c.limits (lent cells states []) vs
        → Settles r (ErasedRunning p 0 c.rows c.layout c.limits) (lent cells states []) (lent cells' states' []) (f vs))
        → Stores erased c (lent cells states bodies) (lent cells' states' bodies') r (λ a. a ≡ 0) f
    erased_reads {c} {r} f long same h = erased_stores (λ a. a ≡ 0) f long same (λ p a vs k z.
        subst (λ (b : ℕ). Settles r (ErasedRunning p b c.rows c.layout c.limits) (lent cells states []) (lent cells' states' []) (f vs)) (sym z)
        (h p vs (subst (λ (b : ℕ). ErasedRunning p b c.rows c.layout c.limits (lent cells states []) vs) z k)))

  pub erased_tells : {c : Context} {n : ℕ} {r : Result Bool Error}
      → ((p : Profile) (a : ℕ) (vs : List Variable) → ErasedRunning p a c.rows c.layout c.limits (lent cells states []) vs → TestRow c.rows a n
      → Tells r (eval_test (expression_tree c.rows n) (contents vs))) → TellsTest erased c (lent cells states bodies) n r
  erased_tells h = record { tells = λ p a vs q k. h p a vs (erased_running k) q }

module _ {values : List ℤ} {flags present : List ℕ} {cells : List ℤ} {states bodies : List ℕ} {c : Context} {n m : ℕ} where
  pub erased_facing : {room : ℕ} → HasFacing erased (lent values flags present) c (lent cells states bodies) room (λ p a b vs ws. Pair erased p a b vs ws n m)
      → HasCopy c.rows c.layout values flags n c.limits (lent cells states []) m
  erased_facing f = record {
    profile = f.profile;
    from = f.source;
    to = f.target;
    their_limits = f.limits;
    their_bodies = present;
    given = f.given;
    giving = (erased_in f.facing.gives).running;
    there = f.property.from;
    store = f.taken;
    running = erased_running f.facing.takes;
    taking = f.property.to;
    same = f.property.may refl;
  }

  pub erased_copies : {cells' : List ℤ} {states' bodies' : List ℕ} {r : ℕ} → bodies' ≡ bodies
      → ((p : Profile) (a b : ℕ) (limits : List ℤ) (theirs : List ℕ) (vs ws : List Variable) → ErasedRunning p a c.rows c.layout limits (lent values flags theirs) vs → n < length vs
      → ErasedRunning p b c.rows c.layout c.limits (lent cells states []) ws → m < length ws → scope_bodies p a n ≡ scope_bodies p b m
      → Settles r (ErasedRunning p b c.rows c.layout c.limits) (lent cells states []) (lent cells' states' []) (copied assigned vs n ws m))
      → Copies erased (lent values flags present) c (lent cells states bodies) (lent cells' states' bodies') n m r
  erased_copies kept h = record {
    settles = λ p a b limits vs ws f q.
        erased_settles (copied assigned vs n ws m) kept f.takes (copied_long vs n ws m)
        (h p a b limits present vs ws (erased_in f.gives).running q.from (erased_running f.takes) q.to (q.may refl));
  }

-- ---- a reading, whose number comes back from the machine's bits
pub stores_number : {w : Way} {c : Context} {l after : Lent} {r : ℕ} {P : ℕ → Type 0} (n : ℕ) {y z : ℤ} → y ≡ z → Stores w c l after r P (λ vs. reading_taken vs (reading n y)) → Stores w c l after r P (λ vs. reading_taken vs (reading n z))
stores_number {w} {c} {l} {after} {r} {P} n e h = subst (λ (x : ℤ). Stores w c l after r P (λ vs. reading_taken vs (reading n x))) e h
