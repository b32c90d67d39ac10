-- What acceptance shows of a constant's row: its bytes are in range for it. Assumes nothing.
use Rattle.std.specs.Prelude.{◌≡◌, true, List, [], ◌∷◌, ℕ, ◌<◌, ℤ}
use Rattle.std.proofs.Common.{sym, subst}
use Rattle.lingua.specs.Numbers.{expression_section}
use Rattle.lingua.specs.Value.{Composite, cells_of}
use Rattle.lingua.specs.Rows.{row_in, table_count, Constant, ExpressionRow, constant_row, expression_row}
use Rattle.lingua.specs.Rules.{constant_fits, row_constant_fits}
use Rattle.safety.specs.Constants.{Fitting}
use Rattle.safety.specs.Forest.{ConstantHas}
use Rattle.safety.specs.Accepted.{AcceptedRows, Plain, constant_row_fits, constant_holds}
use Rattle.decoder.specs.declared.decode.Simple.{Simple}
use Rattle.decoder.specs.declared.decode.ExpressionRow.TheVariants as code
use Rattle.decoder.specs.Decoded.{simple_meaning, constant_meaning, expression_meaning}
use Rattle.profile.specs.Row.{value_of, constant_of, RowSays}

-- the one cell of a composite with a simple body
pub record IsCell (z : ℤ) (x : Composite) : Type 0 where
  pub is : cells_of x.body x.value ≡ z ∷ []

-- the same of an equal cell
pub cell_as : {z y : ℤ} {x : Composite} → z ≡ y → IsCell z x → IsCell y x
cell_as {x = x} e h = subst (λ (k : ℤ). IsCell k x) e h

-- which constant a row has whose bytes are those of row i: its body is that of the row's composite, and where the row is a constant's, its bytes say it
pub record SimpleIn (row : ExpressionRow) (rows : List ℕ) (i : ℕ) (s : Simple) : Type 0 where
  pub body : (value_of row).body ≡ simple_meaning s
  pub says : (c : Constant) → row ≡ constant_row c → row ≡ constant_row (constant_meaning rows i s)

unfoldable pub ConstantSays : List ℕ → ℕ → Simple → Type 0
ConstantSays rows r s = SimpleIn (expression_row rows r) rows (row_in rows expression_section r) s

-- row r of the expressions is a constant in range
pub record ConstantRow (rows : List ℕ) (r : ℕ) : Type 0 where
  pub constant : Constant
  pub is : expression_row rows r ≡ constant_row constant
  pub bytes_fit_lem : constant_fits constant ≡ true
  pub fits : Fitting (constant_of rows r)

pub constant_row_is : (rows : List ℕ) → AcceptedRows rows → (r : ℕ) → r < table_count rows expression_section → (k : Simple) → RowSays rows r (code.Constant k) → ConstantRow rows r
unfolding expression_meaning ConstantHas row_constant_fits constant_of value_of
constant_row_is rows accepted r l k s =
    record {
      constant = constant_meaning rows (row_in rows expression_section r) k;
      is = sym s.says;
      bytes_fit_lem = subst (λ (e : ExpressionRow). row_constant_fits e ≡ true) (sym s.says) (constant_holds rows accepted r l);
      fits = subst (λ (e : ExpressionRow). Fitting (value_of e)) s.says (subst (ConstantHas Plain) (sym s.says) (constant_row_fits rows accepted r l)).0;
    }
