-- The cells of a value that fits are as many as its body's size. Carried by an induction over what fits. Assumes nothing.
use Rattle.std.specs.Prelude.{◌≡◌, refl, ◌*◌, ◌≤◌, length, pos}
use Rattle.std.proofs.Common.{sym, zero-mul, suc-mul, mul-le-mul_right, arith, length-append}
use Rattle.lingua.specs.Numbers.{list_places}
use Rattle.lingua.specs.Body.{Body, Attributes, size, sizes}
use Rattle.lingua.specs.Value.{Value, Values, Fields, count_values, Fits, fit_truth, fit_whole, fit_hundredths, fit_text, fit_items, fit_fields, AllFit, fit_none, fit_item, FieldsFit, fit_end, fit_field, as_items, as_fields, flat, cells_of, field_cells}
use Rattle.laws.specs.Lists.{length_pad}

mutual
  unfolding size sizes count_values cells_of field_cells as_items as_fields flat

  pub length_cells : {v : Value} {b : Body} → Fits v b → length (cells_of b v) ≡ size b
  length_cells fit_truth = refl
  length_cells (fit_whole h) = refl
  length_cells (fit_hundredths h) = refl
  length_cells (fit_text h) = refl
  length_cells (fit_items {vs} {b} le hs) =
      let e : length (flat (λ x. cells_of b x) vs) ≡ count_values vs * size b = length_flat hs in
      let p : count_values vs * size b ≤ list_places * size b = mul-le-mul_right (size b) le in
      omega (arith, e, p, length_pad (list_places * size b) (pos 0) (flat (λ x. cells_of b x) vs) (omega (arith, e, p)))
  length_cells (fit_fields hs) = length_fields hs

  pub length_flat : {vs : Values} {b : Body} → AllFit vs b → length (flat (λ x. cells_of b x) vs) ≡ count_values vs * size b
  length_flat (fit_none {b}) = sym (zero-mul (size b))
  length_flat (fit_item {v} {vs} {b} h hs) =
      let e = length_cells h in
      let r = length_flat hs in
      omega (arith, e, r, length-append (cells_of b v) (flat (λ x. cells_of b x) vs), suc-mul (count_values vs) (size b))

  pub length_fields : {xs : Fields} {fs : Attributes} → FieldsFit xs fs → length (field_cells fs xs) ≡ sizes fs
  length_fields fit_end = refl
  length_fields (fit_field {n} {v} {b} {xs} {fs} h hs) =
      let e = length_cells h in
      let r = length_fields hs in
      omega (arith, e, r, length-append (cells_of b v) (field_cells fs xs))
