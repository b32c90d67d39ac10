-- Attributes of a record on its cells: select is a window at the attribute's offset, change a paste there, remove leaves the
-- cells around it, and expand is an insertion there; and each result fits. Carried by two splits of the cells, at an attribute
-- and where a new one goes, by induction over the fields. That attributes ascend is not needed. Assumes nothing.
use Rattle.std.specs.Prelude.{◌≡◌, refl, Bool, true, false, List, [], ◌++◌, ℕ, ◌+◌, eqb, ltb, length, take, drop, ℤ, if◌then◌else◌}
use Rattle.std.proofs.Common.{sym, ap, ap₂, ◌∙◌, subst, append_assoc, append-nil, arith, length-append, take_at, drop_at, eq-eqb}
use Rattle.std.proofs.Math.Option.{some}
use Rattle.lingua.specs.Outcome.{is_some}
use Rattle.lingua.specs.Body.{Body, record_of, Attributes, end, attribute, size, sizes, attribute_body, attribute_offset, insert_attribute, remove_attribute}
use Rattle.lingua.specs.Value.{Value, fields, Fields, no_fields, field, Fits, fit_fields, FieldsFit, fit_end, fit_field, as_fields, cells_of, field_cells}
use Rattle.lingua.specs.Operation.{present}
use Rattle.lingua.specs.Compute.{field_value, change_field, insert_field, remove_field}
use Rattle.laws.specs.Lengths.{length_cells}

-- a record's cells, split at an attribute of body d: how far it stands, its value, what a change of it gives, and what is left
-- without it
pub record SplitAt (at : ℕ) (d : Body) (fs : Attributes) (value : Value) (cells : List ℤ) (change : Value → Fields) (less : Attributes) (rest : Fields) : Type 0 where
  pub before : List ℤ
  pub after : List ℤ
  pub offset : length before ≡ at
  pub is : cells ≡ before ++ (cells_of d value ++ after)
  pub fit : Fits value d
  pub changed : (v : Value) → field_cells fs (change v) ≡ before ++ (cells_of d v ++ after)
  pub fits : (v : Value) → Fits v d → FieldsFit (change v) fs
  pub removed : field_cells less rest ≡ before ++ after
  pub rest_fits : FieldsFit rest less

abbrev pub Split : ℕ → Body → Attributes → Fields → Type 0
Split n d fs xs = SplitAt (attribute_offset n fs) d fs (field_value n xs) (field_cells fs xs) (λ v. change_field n v xs) (remove_attribute n fs) (remove_field n xs)

pub split : {xs : Fields} {fs : Attributes} → FieldsFit xs fs → (n : ℕ) (d : Body) → attribute_body n fs ≡ some d → Split n d fs xs
unfolding attribute_body attribute_offset field_value change_field remove_attribute remove_field field_cells
split fit_end n d e = absurd (let z : ◌≡◌ {A = ℕ} 0 1 = cc in let k : ⊥ = omega arith in k)
split (fit_field {n = m} {v = w} {b} {xs} {fs} h hs) n d e = go (eqb n m) e (split hs n d)
  where
    go : (t : Bool) → (if t then some b else attribute_body n fs) ≡ some d → (attribute_body n fs ≡ some d → Split n d fs xs)
        → SplitAt (if t then 0 else size b + attribute_offset n fs) d (attribute m b fs) (if t then w else field_value n xs) (cells_of b w ++ field_cells fs xs)
        (λ v. if t then field m v xs else field m w (change_field n v xs)) (if t then fs else attribute m b (remove_attribute n fs)) (if t then xs else field m w (remove_field n xs))
    go true e rest =
        let q : b ≡ d = cc in
        record {
          before = [];
          after = field_cells fs xs;
          offset = refl;
          is = ap (λ (c : Body). cells_of c w ++ field_cells fs xs) q;
          fit = subst (λ (c : Body). Fits w c) q h;
          changed = λ v. ap (λ (c : Body). cells_of c v ++ field_cells fs xs) q;
          fits = λ v k. fit_field (subst (λ (c : Body). Fits v c) (sym q) k) hs;
          removed = refl;
          rest_fits = hs;
        }
    go false e rest =
        let s = rest e in
        record {
          before = cells_of b w ++ s.before;
          after = s.after;
          offset = length-append (cells_of b w) s.before ∙ (let x = length_cells h in let y = s.offset in omega arith);
          is = ap (λ (l : List ℤ). cells_of b w ++ l) s.is ∙ sym (append_assoc (cells_of b w) s.before _);
          fit = s.fit;
          changed = λ v. ap (λ (l : List ℤ). cells_of b w ++ l) (s.changed v) ∙ sym (append_assoc (cells_of b w) s.before _);
          fits = λ v k. fit_field h (s.fits v k);
          removed = ap (λ (l : List ℤ). cells_of b w ++ l) s.removed ∙ sym (append_assoc (cells_of b w) s.before s.after);
          rest_fits = fit_field h s.rest_fits;
        }

-- ---- select, change and remove
module _ {xs : Fields} {fs : Attributes} (hs : FieldsFit xs fs) (n : ℕ) (d : Body) (e : attribute_body n fs ≡ some d) where
  pub select_cells : take (size d) (drop (attribute_offset n fs) (field_cells fs xs)) ≡ cells_of d (field_value n xs)
  select_cells =
      let s = split hs n d e in
      ap (λ (l : List ℤ). take (size d) (drop (attribute_offset n fs) l)) s.is
      ∙ ap (λ (l : List ℤ). take (size d) l) (drop_at s.before _ (attribute_offset n fs) s.offset)
      ∙ take_at (cells_of d (field_value n xs)) s.after (size d) (length_cells s.fit)

  pub select_fits : Fits (field_value n xs) d
  select_fits = (split hs n d e).fit

  -- the cells before the attribute's, and those behind
  cells_before : take (attribute_offset n fs) (field_cells fs xs) ≡ (split hs n d e).before
  cells_before =
      let s = split hs n d e in
      ap (λ (l : List ℤ). take (attribute_offset n fs) l) s.is ∙ take_at s.before _ (attribute_offset n fs) s.offset

  cells_after : drop (attribute_offset n fs + size d) (field_cells fs xs) ≡ (split hs n d e).after
  cells_after =
      let s = split hs n d e in
      let own = cells_of d (field_value n xs) in
      let l : length (s.before ++ own) ≡ attribute_offset n fs + size d = omega (arith, length-append s.before own, s.offset, length_cells s.fit) in
      ap (λ (l : List ℤ). drop (attribute_offset n fs + size d) l) (s.is ∙ sym (append_assoc s.before own s.after))
      ∙ drop_at (s.before ++ own) s.after (attribute_offset n fs + size d) l

  -- the new value's cells in the place of the old one's
  pub change_cells : (v : Value) → Fits v d
      → field_cells fs (change_field n v xs) ≡ take (attribute_offset n fs) (field_cells fs xs) ++ cells_of d v ++ drop (attribute_offset n fs + size d) (field_cells fs xs)
  change_cells v k =
      let s = split hs n d e in
      s.changed v
      ∙ sym (ap₂ (λ (l m : List ℤ). l ++ (cells_of d v ++ m)) cells_before cells_after)
      ∙ sym (append_assoc (take (attribute_offset n fs) (field_cells fs xs)) (cells_of d v) _)

  pub change_fits : (v : Value) → Fits v d → FieldsFit (change_field n v xs) fs
  change_fits v k = (split hs n d e).fits v k

  -- the cells around the attribute's
  pub remove_cells : field_cells (remove_attribute n fs) (remove_field n xs) ≡ take (attribute_offset n fs) (field_cells fs xs) ++ drop (attribute_offset n fs + size d) (field_cells fs xs)
  remove_cells = (split hs n d e).removed ∙ sym (ap₂ (λ (l m : List ℤ). l ++ m) cells_before cells_after)

  pub remove_fits : FieldsFit (remove_field n xs) (remove_attribute n fs)
  remove_fits = (split hs n d e).rest_fits

-- ---- expand
-- a record's cells, split where a new attribute goes, with what the insertion gives
pub record InsertAt (at : ℕ) (c : Body) (v : Value) (cells : List ℤ) (fs : Attributes) (xs : Fields) : Type 0 where
  pub before : List ℤ
  pub after : List ℤ
  pub offset : length before ≡ at
  pub is : cells ≡ before ++ after
  pub inserted : field_cells fs xs ≡ before ++ (cells_of c v ++ after)
  pub fits : FieldsFit xs fs

abbrev pub Insert : ℕ → Body → Value → Attributes → Fields → Type 0
Insert n c v fs xs = InsertAt (attribute_offset n (insert_attribute n c fs)) c v (field_cells fs xs) (insert_attribute n c fs) (insert_field n v xs)

pub insert : {xs : Fields} {fs : Attributes} {v : Value} {c : Body} → FieldsFit xs fs → Fits v c → (n : ℕ) → present n fs ≡ false → Insert n c v fs xs
unfolding attribute_body attribute_offset insert_attribute insert_field field_cells present
insert {v} {c} fit_end k n e =
    rw (eq-eqb n n refl)
    (record { before = []; after = []; offset = refl; is = refl; inserted = refl; fits = fit_field k fit_end })
insert {v} {c} (fit_field {n = m} {v = w} {b} {xs} {fs} h hs) k n e = go (eqb n m) refl e (insert hs k n)
  where
    here : Bool → Attributes
    here t = if t then attribute n c (attribute m b fs) else attribute m b (insert_attribute n c fs)

    there : Bool → Fields
    there t = if t then field n v (field m w xs) else field m w (insert_field n v xs)

    cases : eqb n m ≡ false → (t : Bool) → Insert n c v fs xs → InsertAt (attribute_offset n (here t)) c v (cells_of b w ++ field_cells fs xs) (here t) (there t)
    cases ne true s =
        rw (eq-eqb n n refl)
        (record { before = []; after = cells_of b w ++ field_cells fs xs; offset = refl; is = refl; inserted = refl; fits = fit_field k (fit_field h hs) })
    cases ne false s =
        rw ne
        (record {
          before = cells_of b w ++ s.before;
          after = s.after;
          offset = length-append (cells_of b w) s.before ∙ (let x = length_cells h in let y = s.offset in omega arith);
          is = ap (λ (l : List ℤ). cells_of b w ++ l) s.is ∙ sym (append_assoc (cells_of b w) s.before _);
          inserted = ap (λ (l : List ℤ). cells_of b w ++ l) s.inserted ∙ sym (append_assoc (cells_of b w) s.before _);
          fits = fit_field h s.fits;
        })

    go : (t : Bool) → eqb n m ≡ t → is_some (if t then some b else attribute_body n fs) ≡ false → (present n fs ≡ false → Insert n c v fs xs)
        → InsertAt (attribute_offset n (here (ltb n m))) c v (cells_of b w ++ field_cells fs xs) (here (ltb n m)) (there (ltb n m))
    go true q e rest = absurd (let z : ◌≡◌ {A = ℕ} 0 1 = cc in let k : ⊥ = omega arith in k)
    go false q e rest = cases q (ltb n m) (rest e)

module _ {xs : Fields} {fs : Attributes} {v : Value} {c : Body} (hs : FieldsFit xs fs) (k : Fits v c) (n : ℕ) (e : present n fs ≡ false) where
  -- the new value's cells between those before its place and those after
  pub expand_cells : field_cells (insert_attribute n c fs) (insert_field n v xs)
      ≡ take (attribute_offset n (insert_attribute n c fs)) (field_cells fs xs) ++ cells_of c v ++ drop (attribute_offset n (insert_attribute n c fs)) (field_cells fs xs)
  expand_cells =
      let s = insert hs k n e in
      let at = attribute_offset n (insert_attribute n c fs) in
      s.inserted
      ∙ ap (λ (l : List ℤ). l ++ (cells_of c v ++ s.after)) (sym (ap (λ (l : List ℤ). take at l) s.is ∙ take_at s.before s.after at s.offset))
      ∙ ap (λ (l : List ℤ). take at (field_cells fs xs) ++ (cells_of c v ++ l)) (sym (ap (λ (l : List ℤ). drop at l) s.is ∙ drop_at s.before s.after at s.offset))
      ∙ sym (append_assoc (take at (field_cells fs xs)) (cells_of c v) _)

  pub expand_fits : FieldsFit (insert_field n v xs) (insert_attribute n c fs)
  expand_fits = (insert hs k n e).fits

-- a record's size grows by the new attribute's
pub sizes_insert : (n : ℕ) (c : Body) (fs : Attributes) → sizes (insert_attribute n c fs) ≡ sizes fs + size c
unfolding insert_attribute sizes
sizes_insert n c end = omega arith
sizes_insert n c (attribute m b fs) = go (ltb n m) (sizes_insert n c fs)
  where
    go : (t : Bool) → sizes (insert_attribute n c fs) ≡ sizes fs + size c
        → sizes (if t then attribute n c (attribute m b fs) else attribute m b (insert_attribute n c fs)) ≡ size b + sizes fs + size c
    go true e = omega arith
    go false e = omega (arith, e)

-- ---- make
-- the cells of a record of one attribute are the attribute's
pub make_record_cells : (n : ℕ) (b : Body) (x : Value) → cells_of (record_of (attribute n b end)) (fields (field n x no_fields)) ≡ cells_of b x
unfolding cells_of field_cells as_fields
make_record_cells n b x = append-nil (cells_of b x)

pub make_record_size : (n : ℕ) (b : Body) → size (record_of (attribute n b end)) ≡ size b
unfolding size sizes
make_record_size n b = omega arith

pub make_record_fits : (n : ℕ) {b : Body} {x : Value} → Fits x b → Fits (fields (field n x no_fields)) (record_of (attribute n b end))
make_record_fits n h = fit_fields (fit_field h fit_end)
