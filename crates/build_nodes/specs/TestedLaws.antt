-- The classes tested are in one array for the whole building. A call writes behind the first ones, which stay; so the matrix of its
-- caller stands for the same one before and after it.
use Rattle.std.specs.Prelude.{◌≡◌, refl, List, [], ◌∷◌, ◌++◌, ℕ, ◌+◌, length, take}
use Rattle.std.proofs.Common.{sym, ap, subst, ◌∙◌, arith, length-append, take-take, take_at, length-take-le}
use Rattle.spec_rules.specs.Limits.{patterns_most}
use Rattle.format_sheet.specs.declared.SheetMap.{SheetMap}
use Rattle.build_matrix.specs.declared.Matrix.{Matrix}
use Rattle.build_matrix.specs.Lists.{classes_in, numbers_in, as_classes}
use Rattle.build_matrix.specs.ListsLaws.{holds_count}
use Rattle.build_matrix.specs.Numbered.{Numbered, SoundOf, chosen_in}
use Rattle.build_matrix.specs.InNumbers.{in_numbers, WholeMatrix, StandsFor, default_read}
use Rattle.build_nodes.specs.Steps.{StillTested, AskedColumn}

-- ---- the array
pub still : {time : ℕ} {l : List ℕ} → length l ≡ patterns_most → StillTested time l l
still h = record { long = h; same = refl }

pub still_on : {time : ℕ} {l l' l'' : List ℕ} → StillTested time l l' → StillTested time l' l'' → StillTested time l l''
still_on a b = record { long = b.long; same = b.same ∙ a.same }

-- by a call that leaves one more of them
pub still_fewer : {time more : ℕ} {l l' : List ℕ} → more ≡ time + 1 → StillTested more l l' → StillTested time l l'
still_fewer {time} {more} {l} {l'} e a =
    record {
      long = a.long;
      same = sym (take-take time more l' (omega arith)) ∙ ap (take time) a.same ∙ take-take time more l (omega arith);
    }

-- ---- a matrix, with the classes tested in another array
abbrev pub tested_in : Matrix → List ℕ → Matrix
tested_in x l = record { rows = x.rows; columns = x.columns; tested = as_classes l x.tested.count; opened = x.opened }

pub still_numbers : (x : Matrix) {l : List ℕ} → StillTested x.tested.count x.tested.list l → in_numbers (tested_in x l) ≡ in_numbers x
still_numbers x kept =
    ap {B = Numbered} (λ (z : List ℕ). record { rows = numbers_in x.rows; columns = classes_in x.columns; tested = z; opened = x.opened }) kept.same

module _ {s : List ℕ} {m : SheetMap} {t : List ℕ} {x : Matrix} {k : ℕ} (col : AskedColumn s m t x k) {l : List ℕ}
    (kept : StillTested x.tested.count x.tested.list l) where
  pub still_column : AskedColumn s m t (tested_in x l) k
  still_column =
      let whole = col.there.whole in
      record {
        ready = col.ready;
        there = record {
          whole = record {
            whole_rows = whole.whole_rows;
            whole_columns = whole.whole_columns;
            whole_tested = record { long = kept.long; most = whole.whole_tested.most; are = refl };
            long_opened = whole.long_opened;
          };
          sound = subst (λ (M : Numbered). SoundOf s M) (sym (still_numbers x kept)) col.there.sound;
          some_row = col.there.some_row;
        };
        chosen = ap (chosen_in s) (still_numbers x kept) ∙ col.chosen;
      }

  pub still_default : {d : Matrix} → StandsFor d (default_read t k (in_numbers (tested_in x l))) → StandsFor d (default_read t k (in_numbers x))
  still_default stands = record { whole = stands.whole; are = stands.are ∙ ap (default_read t k) (still_numbers x kept) }

-- ---- a class more
module _ {x y : Matrix} (k : ℕ) (before : WholeMatrix x) (after : WholeMatrix y) (are : (in_numbers y).tested ≡ (in_numbers x).tested ++ k ∷ []) where
  pub one_more : y.tested.count ≡ x.tested.count + 1
  one_more =
      omega (arith, holds_count after.whole_tested, holds_count before.whole_tested, ap length are, length-append (classes_in x.tested) (k ∷ []))

  pub still_more : StillTested x.tested.count x.tested.list y.tested.list
  still_more =
      let time = x.tested.count in
      let l = x.tested.list in
      record {
        long = after.whole_tested.long;
        same =
            sym (take-take time y.tested.count y.tested.list (omega (arith, one_more)))
            ∙ ap (take time) are
            ∙ take_at (take time l) (k ∷ []) time (length-take-le time l (omega (arith, before.whole_tested.long, before.whole_tested.most)));
      }
