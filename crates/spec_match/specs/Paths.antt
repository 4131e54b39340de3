-- Steps and paths that are the same are equal: each field of a step stands in what it is written as.
use Rattle.std.specs.Prelude.{ℕ, ◌≡◌, refl, true, false, List, [], ◌∷◌, get_or}
use Rattle.std.proofs.Common.{sym, ap, ap₂, ◌∙◌, true≢false}
use Rattle.std.proofs.lemmas.Bool.{false≢true}
use Rattle.base_words.specs.WordsLaws.{both_true, both_make, same_text_refl, same_text_sound}
use Rattle.spec_rules.specs.Rows.{Step, pair, tuple, constr, list, listtail, Path, bit, step_fields, same_step, same_path}
use Rattle.spec_rules.specs.TreeReader.{step_of_fields}

-- the step with these fields: kind, flag, index, type
step_of : List ℕ → Step
unfolding step_of_fields
step_of fs = step_of_fields (get_or fs 0 0) (get_or fs 1 0) (get_or fs 2 0) (get_or fs 3 0)

step_of_fields_lem : (s : Step) → step_of (step_fields s) ≡ s
unfolding step_of step_of_fields step_fields bit
step_of_fields_lem (pair i t) = refl
step_of_fields_lem (tuple i t) = refl
step_of_fields_lem (constr i true t) = refl
step_of_fields_lem (constr i false t) = refl
step_of_fields_lem (list i t) = refl
step_of_fields_lem (listtail i t) = refl

pub same_step_sound : (s t : Step) → same_step s t ≡ true → s ≡ t
unfolding same_step
same_step_sound s t e = sym (step_of_fields_lem s) ∙ ap step_of (same_text_sound (step_fields s) (step_fields t) e) ∙ step_of_fields_lem t

pub same_step_refl : (s : Step) → same_step s s ≡ true
unfolding same_step
same_step_refl s = same_text_refl (step_fields s)

pub same_path_sound : (p q : Path) → same_path p q ≡ true → p ≡ q
unfolding same_path
same_path_sound [] [] e = refl
same_path_sound [] (t ∷ ts) e = absurd (false≢true e)
same_path_sound (s ∷ ss) [] e = absurd (false≢true e)
same_path_sound (s ∷ ss) (t ∷ ts) e =
    let (a, b) = both_true (same_step s t) (same_path ss ts) e in
    ap₂ (λ (x : Step) (y : Path). x ∷ y) (same_step_sound s t a) (same_path_sound ss ts b)

pub same_path_refl : (p : Path) → same_path p p ≡ true
unfolding same_path
same_path_refl [] = refl
same_path_refl (s ∷ ss) = both_make (same_step s s) (same_path ss ss) (same_step_refl s) (same_path_refl ss)

pub same_path_make : (p q : Path) → p ≡ q → same_path p q ≡ true
same_path_make p q e = rw e (same_path_refl q)

pub same_path_false : (p q : Path) → same_path p q ≡ false → p ≡ q → ⊥
same_path_false p q e h = true≢false (sym (same_path_make p q h) ∙ e)
