-- Two values that fit one body and have the same cells are the same value. Carried by an induction over what fits, with
-- `packed_injective` for words and the lengths of cells for lists and records. Assumes nothing.
use Rattle.std.specs.Prelude.{◌≡◌, refl, Bool, true, false, List, ℕ, ◌*◌, length, ℤ, pos}
use Rattle.std.proofs.Common.{sym, ap, ap₂, ◌∙◌, arith}
use Rattle.lingua.specs.Numbers.{word_length}
use Rattle.lingua.specs.Body.{Body, Attributes, size}
use Rattle.lingua.specs.Value.{Value, truth, whole, count, text, items, fields, Values, item, Fields, field, count_values, Fits, fit_truth, fit_whole, fit_hundredths, fit_text, fit_items, fit_fields, AllFit, fit_none, fit_item, FieldsFit, fit_end, fit_field, as_truth, as_whole, as_text, as_items, as_fields, pad, bit, packed_in, packed, flat, cells_of, field_cells}
use Rattle.laws.specs.Lists.{append_left, append_right, head_same, tail_same}
use Rattle.laws.specs.Lengths.{length_cells, length_flat}
use Rattle.laws.specs.Words.{text_short, text_characters, packed_injective}

pub pos_same : {m n : ℕ} → pos m ≡ pos n → m ≡ n
pos_same e = cc

pub bit_same : (t u : Bool) → bit t ≡ bit u → t ≡ u
bit_same true true e = refl
bit_same true false e = absurd (let z : ◌≡◌ {A = ℕ} 1 0 = pos_same e in let k : ⊥ = omega arith in k)
bit_same false true e = absurd (let z : ◌≡◌ {A = ℕ} 0 1 = pos_same e in let k : ⊥ = omega arith in k)
bit_same false false e = refl

pub packed_same : (cs ds : List ℕ) → packed cs ≡ packed ds → packed_in word_length cs ≡ packed_in word_length ds
unfolding packed
packed_same cs ds e = pos_same e

mutual
  unfolding cells_of field_cells as_truth as_whole as_text as_items as_fields pad flat count_values

  pub determined : {v w : Value} {b : Body} → Fits v b → Fits w b → cells_of b v ≡ cells_of b w → v ≡ w
  determined (fit_truth {t}) (fit_truth {t = u}) e = ap (λ (s : Bool). truth s) (bit_same t u (head_same e))
  determined (fit_whole h) (fit_whole k) e = ap (λ (z : ℤ). whole z) (head_same e)
  determined (fit_hundredths h) (fit_hundredths k) e = ap (λ (z : ℤ). count z) (head_same e)
  determined (fit_text {cs} h) (fit_text {cs = ds} k) e =
      ap (λ (s : List ℕ). text s)
      (packed_injective word_length cs ds (text_short cs h) (text_short ds k) (text_characters cs h) (text_characters ds k) (packed_same cs ds (head_same e)))
  determined (fit_items {vs} {b} le hs) (fit_items {vs = ws} me ks) e =
      let n : count_values vs ≡ count_values ws = pos_same (head_same e) in
      let l : length (flat (λ x. cells_of b x) vs) ≡ length (flat (λ x. cells_of b x) ws) = length_flat hs ∙ ap (λ (k : ℕ). k * size b) n ∙ sym (length_flat ks) in
      ap (λ (us : Values). items us) (determined_items hs ks n (append_left (flat (λ x. cells_of b x) vs) _ (flat (λ x. cells_of b x) ws) _ l (tail_same e)))
  determined (fit_fields hs) (fit_fields ks) e = ap (λ (us : Fields). fields us) (determined_fields hs ks e)

  pub determined_items : {vs ws : Values} {b : Body} → AllFit vs b → AllFit ws b → count_values vs ≡ count_values ws
      → flat (λ x. cells_of b x) vs ≡ flat (λ x. cells_of b x) ws → vs ≡ ws
  determined_items fit_none fit_none n e = refl
  determined_items fit_none (fit_item k ks) n e = absurd (let z : ⊥ = omega (arith, n) in z)
  determined_items (fit_item h hs) fit_none n e = absurd (let z : ⊥ = omega (arith, n) in z)
  determined_items (fit_item {v} {vs} {b} h hs) (fit_item {v = w} {vs = ws} k ks) n e =
      let l : length (cells_of b v) ≡ length (cells_of b w) = length_cells h ∙ sym (length_cells k) in
      ap₂ (λ (x : Value) (us : Values). item x us)
      (determined h k (append_left (cells_of b v) (flat (λ x. cells_of b x) vs) (cells_of b w) (flat (λ x. cells_of b x) ws) l e))
      (determined_items hs ks (omega (arith, n)) (append_right (cells_of b v) (flat (λ x. cells_of b x) vs) (cells_of b w) (flat (λ x. cells_of b x) ws) l e))

  pub determined_fields : {xs ys : Fields} {fs : Attributes} → FieldsFit xs fs → FieldsFit ys fs → field_cells fs xs ≡ field_cells fs ys → xs ≡ ys
  determined_fields fit_end fit_end e = refl
  determined_fields (fit_field {n} {v} {b} {xs} {fs} h hs) (fit_field {v = w} {xs = ys} k ks) e =
      let l : length (cells_of b v) ≡ length (cells_of b w) = length_cells h ∙ sym (length_cells k) in
      ap₂ (λ (x : Value) (us : Fields). field n x us)
      (determined h k (append_left (cells_of b v) (field_cells fs xs) (cells_of b w) (field_cells fs ys) l e))
      (determined_fields hs ks (append_right (cells_of b v) (field_cells fs xs) (cells_of b w) (field_cells fs ys) l e))
