-- Coherence: a body is coherent with itself, and one that is no record with itself alone, on either side. Assumes nothing.
use Rattle.std.specs.Prelude.{◌≡◌, refl, Bool, true, false, ◌||◌}
use Rattle.std.proofs.Common.{sym, ap, ◌∙◌}
use Rattle.std.proofs.Math.Option.{Option, some, none}
use Rattle.lingua.specs.Body.{Body, Attributes, attributes_of, holds, same_body, lacks_one, coherent}
use Rattle.laws.specs.Outcomes.{same_body_lem, body_same}

pub coherent_itself : (b : Body) → coherent b b ≡ true
unfolding coherent
coherent_itself b = ap (λ (t : Bool). t || holds (attributes_of b) (λ fs. holds (attributes_of b) (λ gs. lacks_one fs gs || lacks_one gs fs))) (body_same b)

pub coherent_same : (b c : Body) → b ≡ c → coherent b c ≡ true
coherent_same b c e = ap (coherent b) (sym e) ∙ coherent_itself b

-- only a record's body changes
pub coherent_alone : (b c : Body) → attributes_of b ≡ none → coherent b c ≡ true → b ≡ c
unfolding coherent
coherent_alone b c e h = same_body_lem b c (by (same_body b c) (sym (ap (λ (o : Option Attributes). same_body b c || holds o (λ fs. holds (attributes_of c) (λ gs. lacks_one fs gs || lacks_one gs fs))) e) ∙ h))
  where
    by : (t : Bool) → (t || false) ≡ true → t ≡ true
    by true q = refl
    by false q = q

pub coherent_other : (b c : Body) → attributes_of c ≡ none → coherent b c ≡ true → b ≡ c
unfolding coherent
coherent_other b c e h = same_body_lem b c (by (same_body b c) (attributes_of b) (sym (ap (λ (o : Option Attributes). same_body b c || holds (attributes_of b) (λ fs. holds o (λ gs. lacks_one fs gs || lacks_one gs fs))) e) ∙ h))
  where
    by : (t : Bool) (o : Option Attributes) → (t || holds o (λ fs. false)) ≡ true → t ≡ true
    by true o q = refl
    by false none q = q
    by false (some fs) q = q
