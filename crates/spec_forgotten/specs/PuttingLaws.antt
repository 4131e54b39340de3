-- A value with the part at a path exchanged: the path then leads to the new part, a path apart from it leads to the old one, and what
-- stands above keeps its constructor number and its length. This is what makes the tests of a way independent of each other.
use Rattle.std.specs.Prelude.{ℕ, zero, suc, ◌≡◌, Bool, true, false, eqb}
use Rattle.std.proofs.Common.{arith, sym, ◌∙◌}
use Rattle.std.proofs.Math.Path.{refl, ap}
use mathlib.Core.List.{[], ◌∷◌, ◌++◌}
use Rattle.std.proofs.Math.Option.{Option, none, some}
use Rattle.base_words.specs.Words.{pick}
use Rattle.spec_rules.specs.Rows.{Step, Path}
use Rattle.spec_rules.specs.Columns.{step_index}
use Rattle.spec_forgotten.specs.Values.{Value, Values, an_integer, a_byte_string, whole, vnil, vcons, whole_kind, many_values, nth_of, into_kind, is_tail, step_into, part_along, shows, length_of}

some_same : (a b : Value) → ◌≡◌ {A = Option Value} (some a) (some b) → a ≡ b
some_same a b w = cc

none_some : (y : Value) → ◌≡◌ {A = Option Value} none (some y) → ⊥
none_some y e = let z : ◌≡◌ {A = ℕ} 0 1 = cc in absurd (omega arith)

-- ---- part i of several, changed
unfoldable pub change_nth : (Value → Value) → Values → ℕ → Values
change_nth f vnil i = vnil
change_nth f (vcons v vs) zero = vcons (f v) vs
change_nth f (vcons v vs) (suc i) = vcons v (change_nth f vs i)

pub many_change : (f : Value → Value) (vs : Values) (i : ℕ) → many_values (change_nth f vs i) ≡ many_values vs
unfolding change_nth many_values
many_change f vnil i = refl
many_change f (vcons v vs) zero = refl
many_change f (vcons v vs) (suc i) = ap suc (many_change f vs i)

abbrev pub on_some : (Value → Value) → Option Value → Option Value
on_some f none = none
on_some f (some x) = some (f x)

nth_changed : (f : Value → Value) (vs : Values) (i : ℕ) → nth_of (change_nth f vs i) i ≡ on_some f (nth_of vs i)
unfolding change_nth nth_of
nth_changed f vnil i = refl
nth_changed f (vcons v vs) zero = refl
nth_changed f (vcons v vs) (suc i) = nth_changed f vs i

nth_other : (f : Value → Value) (vs : Values) (i j : ℕ) → (i ≡ j → ⊥) → nth_of (change_nth f vs i) j ≡ nth_of vs j
unfolding change_nth nth_of
nth_other f vnil i j d = refl
nth_other f (vcons v vs) zero zero d = absurd (d refl)
nth_other f (vcons v vs) zero (suc j) d = refl
nth_other f (vcons v vs) (suc i) zero d = refl
nth_other f (vcons v vs) (suc i) (suc j) d = nth_other f vs i j (λ e. d (ap suc e))

-- ---- the part that a step leads to, changed; a value on which the step can't be taken stays as it is
unfoldable pub change_part : Step → (Value → Value) → Value → Value
unfolding change_nth whole_kind into_kind step_index
change_part s f (an_integer w) = an_integer w
change_part s f (a_byte_string w) = a_byte_string w
change_part s f (whole k vs) = whole k (pick (eqb (whole_kind k) (into_kind s)) (change_nth f vs (step_index s)) vs)

-- a step that is no tail: a tested path has only such, since a tail is a variable or a discard
pub step_changed : (s : Step) (f : Value → Value) (v : Value) → is_tail s ≡ false → step_into s (change_part s f v) ≡ on_some f (step_into s v)
unfolding step_into change_part
step_changed s f (an_integer w) n = refl
step_changed s f (a_byte_string w) n = refl
step_changed s f (whole k vs) n = rw n (go (eqb (whole_kind k) (into_kind s)))
  where
    go : (b : Bool) → pick b (nth_of (pick b (change_nth f vs (step_index s)) vs) (step_index s)) none ≡ on_some f (pick b (nth_of vs (step_index s)) none)
    go true = nth_changed f vs (step_index s)
    go false = refl

-- another index, where neither is a tail: the step leads where it led
pub step_other : (s u : Step) (f : Value → Value) (v : Value) → is_tail u ≡ false → (step_index s ≡ step_index u → ⊥) → step_into u (change_part s f v) ≡ step_into u v
unfolding step_into change_part
step_other s u f (an_integer w) n d = refl
step_other s u f (a_byte_string w) n d = refl
step_other s u f (whole k vs) n d = rw n (go (eqb (whole_kind k) (into_kind s)))
  where
    go : (b : Bool) → pick (eqb (whole_kind k) (into_kind u)) (nth_of (pick b (change_nth f vs (step_index s)) vs) (step_index u)) none
        ≡ pick (eqb (whole_kind k) (into_kind u)) (nth_of vs (step_index u)) none
    go true = ap (λ o. pick (eqb (whole_kind k) (into_kind u)) o none) (nth_other f vs (step_index s) (step_index u) d)
    go false = refl

-- what a value shows, and how long it is, does not change with a part of it
pub shows_same : (s : Step) (f : Value → Value) (v : Value) → shows (change_part s f v) ≡ shows v
unfolding shows change_part
shows_same s f (an_integer w) = refl
shows_same s f (a_byte_string w) = refl
shows_same s f (whole k vs) = refl

pub length_same : (s : Step) (f : Value → Value) (v : Value) → length_of (change_part s f v) ≡ length_of v
unfolding length_of change_part
length_same s f (an_integer w) = refl
length_same s f (a_byte_string w) = refl
length_same s f (whole k vs) = ap (λ n. pick (eqb (whole_kind k) 2) (some n) none) (go (eqb (whole_kind k) (into_kind s)))
  where
    go : (b : Bool) → many_values (pick b (change_nth f vs (step_index s)) vs) ≡ many_values vs
    go true = many_change f vs (step_index s)
    go false = refl

-- ---- along a path
unfoldable pub put_at : Path → Value → Value → Value
unfolding change_part
put_at [] x v = x
put_at (s ∷ p) x v = change_part s (put_at p x) v

abbrev pub NoTails : Path → Type 0
NoTails [] = Unit {0}
NoTails (s ∷ p) = (is_tail s ≡ false) × NoTails p

unfoldable pub and_on : Path → Option Value → Option Value
unfolding part_along
and_on p none = none
and_on p (some x) = part_along p x

pub along_step : (s : Step) (p : Path) (v : Value) → part_along (s ∷ p) v ≡ and_on p (step_into s v)
unfolding part_along and_on
along_step s p v = go (step_into s v)
  where
    go : (o : Option Value) → elim o as (λ z. Option Value) [ none ↦ none | some x ↦ part_along p x ] ≡ and_on p o
    go none = refl
    go (some x) = refl

along_changed : (s : Step) (p : Path) (f : Value → Value) (v : Value) → is_tail s ≡ false → part_along (s ∷ p) (change_part s f v) ≡ and_on p (on_some f (step_into s v))
along_changed s p f v n = along_step s p (change_part s f v) ∙ ap (and_on p) (step_changed s f v n)

-- the path leads to the new part
pub put_there : (p : Path) (x v y : Value) → NoTails p → part_along p v ≡ some y → part_along p (put_at p x v) ≡ some x
unfolding part_along put_at and_on
put_there [] x v y n e = refl
put_there (s ∷ p) x v y n e =
    along_changed s p (put_at p x) v n.0 ∙ go (step_into s v) (sym (along_step s p v) ∙ e) (λ w h. put_there p x w y n.1 h)
  where
    go : (o : Option Value) → and_on p o ≡ some y → ((w : Value) → part_along p w ≡ some y → part_along p (put_at p x w) ≡ some x)
        → and_on p (on_some (put_at p x) o) ≡ some x
    go none h ih = absurd (none_some y h)
    go (some w) h ih = ih w h

-- two paths that part: the same steps, then steps of different index
pub data Parting : Path → Path → Type 0 where
  here : (s u : Step) (p q : Path) → is_tail u ≡ false → (step_index s ≡ step_index u → ⊥) → Parting (s ∷ p) (u ∷ q)
  further : (s : Step) (p q : Path) → is_tail s ≡ false → Parting p q → Parting (s ∷ p) (s ∷ q)

-- a path apart from it leads where it led
pub put_apart : (p q : Path) (x v : Value) → Parting p q → part_along q (put_at p x v) ≡ part_along q v
unfolding put_at and_on
put_apart p q x v (here s u a b n d) =
    along_step u b (change_part s (put_at a x) v) ∙ ap (and_on b) (step_other s u (put_at a x) v n d) ∙ sym (along_step u b v)
put_apart p q x v (further s a b n h) = along_changed s b (put_at a x) v n ∙ go (step_into s v) (λ w. put_apart a b x w h) ∙ sym (along_step s b v)
  where
    go : (o : Option Value) → ((w : Value) → part_along b (put_at a x w) ≡ part_along b w) → and_on b (on_some (put_at a x) o) ≡ and_on b o
    go none ih = refl
    go (some w) ih = ih w

-- above it everything shows what it showed: q is a start of the path, s the step that goes on from it
abbrev pub on_shows : {A : Type 0} → (Value → Option A) → Option Value → Option A
on_shows g none = none
on_shows g (some x) = g x

module _ {A : Type 0} (g : Value → Option A) (same : (s : Step) (f : Value → Value) (v : Value) → g (change_part s f v) ≡ g v) where
  pub put_above : (q : Path) (s : Step) (p : Path) (x v : Value) → NoTails q → on_shows g (part_along q (put_at (q ++ s ∷ p) x v)) ≡ on_shows g (part_along q v)
  unfolding put_at part_along and_on
  put_above [] s p x v n = same s (put_at p x) v
  put_above (u ∷ q) s p x v n =
      ap (on_shows g) (along_changed u q (put_at (q ++ s ∷ p) x) v n.0) ∙ go (step_into u v) (λ w. put_above q s p x w n.1) ∙ ap (on_shows g) (sym (along_step u q v))
    where
      go : (o : Option Value) → ((w : Value) → on_shows g (part_along q (put_at (q ++ s ∷ p) x w)) ≡ on_shows g (part_along q w))
          → on_shows g (and_on q (on_some (put_at (q ++ s ∷ p) x) o)) ≡ on_shows g (and_on q o)
      go none ih = refl
      go (some w) ih = ih w
