-- The search for a variable by its name, and what it says of rule 15. Assumes nothing.
use mathlib.Core.Path.{◌≡◌, refl, sym, ap, ◌∙◌}
use mathlib.Core.Bool.{Bool, true, false, not, ◌&&◌}
use mathlib.Core.List.{List}
use mathlib.Core.Option.{some, none}
use Prim.Native.Nat.{ℕ, ◌<◌}
use Rattle.lingua.specs.Numbers.{declaration_section}
use Rattle.lingua.specs.Body.{Body}
use Rattle.lingua.specs.Compute.{same_text}
use Rattle.lingua.specs.Rows.{pair_count}
use Rattle.lingua.specs.Trees.{name_at}
use Rattle.lingua.specs.Lookup.{Lookup, look_up}
use Rattle.lingua.specs.Format.{profile}
use Rattle.lingua.specs.Rules.{name_wrong}
use Rattle.lingua.specs.Refusal.{is_variable_of, names_one}
use Rattle.laws.specs.Tests.{every_all}
use Rattle.laws.specs.Equal.{same_text_lem, text_same}
use Rattle.laws.specs.Lookup.{Unnamed, NamedAt, found_first, found_none}
use Rattle.safety.specs.Answers.{true_is_false}
use Rattle.safety.specs.Limited.{variable_named}
use Rattle.std.specs.Prelude.{Some, None}
use Rattle.profile.specs.Find.{found_at, found_meaning, OneNamed}
use Rattle.profile.specs.declared.find.Search.{Search}
use Rattle.profile.proofs.Agreeing.{one_wrong}

-- ---- by the case that was found
module _ (p : Body → Bool) (rows name : List ℕ) where
  pub is_found : (r : Search) (d : ℕ) → r.index ≡ Some d → found_meaning r ≡ look_up rows name → (look_up rows name).found ≡ some d
  unfolding found_meaning
  is_found r d e h = ap (λ (l : Lookup). l.found) (sym h) ∙ ap found_at e

  is_nothing : (r : Search) → r.index ≡ None → found_meaning r ≡ look_up rows name → (look_up rows name).found ≡ none
  unfolding found_meaning
  is_nothing r e h = ap (λ (l : Lookup). l.found) (sym h) ∙ ap found_at e

  -- ---- rule 15
  name_missing : Unnamed rows name (pair_count rows declaration_section) → names_one p rows name ≡ false
  unfolding names_one
  name_missing h =
      ap not (every_all (pair_count rows declaration_section) (λ d. not (same_text (name_at rows declaration_section d) name && is_variable_of p rows d))
      (λ d l. ap (λ (t : Bool). not (t && is_variable_of p rows d)) (h.other d l)))

  variable_found : (d : ℕ) → NamedAt rows name d → is_variable_of p rows d ≡ true → true ≡ names_one p rows name
  unfolding names_one
  variable_found d h e =
      one_wrong (pair_count rows declaration_section) (λ c. not (same_text (name_at rows declaration_section c) name && is_variable_of p rows c)) d
      (ap (λ (t : Bool). not (t && is_variable_of p rows d)) h.named ∙ ap not e) h.there

  -- the variable of the name decides: there is no other
  name_found : (d : ℕ) → name_wrong profile rows ≡ false → NamedAt rows name d → is_variable_of p rows d ≡ names_one p rows name
  name_found d right h = by (is_variable_of p rows d) (names_one p rows name) refl refl
    where
      back : same_text name (name_at rows declaration_section d) ≡ true
      back = ap (λ (x : List ℕ). same_text name x) (same_text_lem _ _ h.named) ∙ text_same name

      by : (a b : Bool) → is_variable_of p rows d ≡ a → names_one p rows name ≡ b → is_variable_of p rows d ≡ names_one p rows name
      by true b e q = e ∙ variable_found d h e
      by false false e q = e ∙ sym q
      by false true e q = true_is_false (sym (variable_named rows right p d h.there name back q) ∙ e)

  -- a variable that is found is there
  pub found_there : (r : Search) (d : ℕ) → r.index ≡ Some d → found_meaning r ≡ look_up rows name → d < pair_count rows declaration_section
  found_there r d e h = (found_first rows name d (is_found r d e h)).0.there

  -- ---- the ways in which the variable of a name is found or not
  pub none_named : (r : Search) → r.index ≡ None → found_meaning r ≡ look_up rows name → OneNamed p None rows name
  unfolding OneNamed
  none_named r e h = name_missing (found_none rows name (is_nothing r e h)).0

  module _ (r : Search) (d : ℕ) (e : r.index ≡ Some d) (h : found_meaning r ≡ look_up rows name) (right : name_wrong profile rows ≡ false) (b : Bool) (is : b ≡ is_variable_of p rows d) where
    names_as : names_one p rows name ≡ b
    names_as = sym (is ∙ name_found d right (found_first rows name d (is_found r d e h)).0)

    pub one_named : b ≡ true → OneNamed p (Some d) rows name
    unfolding OneNamed
    one_named t = (is_found r d e h, names_as ∙ t)

    pub other_named : b ≡ false → OneNamed p None rows name
    unfolding OneNamed
    other_named f = names_as ∙ f
