-- A packed answer reads back: of four words in one number, a caller in C finds each in its own 16 bits.
-- So two answers of different words are two numbers.
use Rattle.std.specs.Prelude.{◌≡◌, refl, ℕ, ◌/◌, ◌%◌, ◌<◌, eqb}
use Rattle.std.proofs.Common.{sym, ap, ◌∙◌, arith, ne_eqb}
use Rattle.base_words.specs.Words.{pick}
use Rattle.spec_rules.specs.RefusalNumbers.{stuck_refusal}
use Rattle.spec_rules.specs.SheetRefusals.{Verdict, accepted, refused}
use Rattle.spec_rules.specs.Calls.{Answer, answers, refuses, Built, WalkEnd, leaf_of, without_leaf, stuck_at, Span}
use Rattle.dewmycel.specs.Packed.{packed, packed_fit, packed_build, packed_walk, packed_text}

-- four words
pub record Words (a b c d : ℕ) : Type 0 where
  pub first : a < 65536
  pub second : b < 65536
  pub third : c < 65536
  pub fourth : d < 65536

-- y as C reads it: a uint64_t, shifted right and cut to 16 bits
pub record ReadsBack (y a b c d : ℕ) : Type 0 where
  pub is_word : y < 18446744073709551616
  pub bits_0_to_15 : y % 65536 ≡ a
  pub bits_16_to_31 : (y / 65536) % 65536 ≡ b
  pub bits_32_to_47 : (y / 4294967296) % 65536 ≡ c
  pub bits_48_to_63 : (y / 281474976710656) % 65536 ≡ d

-- THEOREM: bits 0 to 15 of a packed answer are its first word, 16 to 31 its second, 32 to 47 its third, 48 to 63 its fourth
pub packed_reads_back : (a b c d : ℕ) → Words a b c d → ReadsBack (packed a b c d) a b c d
unfolding packed
packed_reads_back a b c d w = record {
  is_word = omega (arith, w.first, w.second, w.third, w.fourth);
  bits_0_to_15 = omega (arith, w.first);
  bits_16_to_31 = omega (arith, w.first, w.second);
  bits_32_to_47 = omega (arith, w.first, w.second, w.third);
  bits_48_to_63 = omega (arith, w.first, w.second, w.third, w.fourth);
}

-- the same four words
pub record Same (a b c d a' b' c' d' : ℕ) : Type 0 where
  pub first : a ≡ a'
  pub second : b ≡ b'
  pub third : c ≡ c'
  pub fourth : d ≡ d'

-- THEOREM: different words never pack alike
pub packed_once : (a b c d a' b' c' d' : ℕ) → Words a b c d → Words a' b' c' d' → packed a b c d ≡ packed a' b' c' d' → Same a b c d a' b' c' d'
packed_once a b c d a' b' c' d' w w' e =
    let r = packed_reads_back a b c d w in
    let r' = packed_reads_back a' b' c' d' w' in
    record {
      first = sym r.bits_0_to_15 ∙ ap (λ y. y % 65536) e ∙ r'.bits_0_to_15;
      second = sym r.bits_16_to_31 ∙ ap (λ y. (y / 65536) % 65536) e ∙ r'.bits_16_to_31;
      third = sym r.bits_32_to_47 ∙ ap (λ y. (y / 4294967296) % 65536) e ∙ r'.bits_32_to_47;
      fourth = sym r.bits_48_to_63 ∙ ap (λ y. (y / 281474976710656) % 65536) e ∙ r'.bits_48_to_63;
    }

-- ---- each call's answer, taken out of its number as include/dewmycel.h says
-- bits 0 to 15 are the refusal number, 0 for none; of a refusal bits 16 to 31 are its place; else the answer is what f takes
abbrev pub read_answer : {A : Type 0} → (ℕ → A) → ℕ → Answer A
read_answer f y = pick (eqb (y % 65536) 0) (answers (f y)) (refuses (y % 65536) ((y / 65536) % 65536))

-- a build: bits 16 to 31 are the length of the tree file, 32 to 47 its nodes, 48 to 63 its bindings
abbrev pub read_built : ℕ → Built
read_built y = record { bytes = (y / 65536) % 65536; nodes = (y / 4294967296) % 65536; bindings = (y / 281474976710656) % 65536 }

-- a walk: at a leaf bit 48 is 1, bits 16 to 31 are its clause and 32 to 47 how many bindings it has
abbrev pub read_end : ℕ → WalkEnd
read_end y = pick (eqb ((y / 281474976710656) % 65536) 1) (leaf_of ((y / 65536) % 65536) ((y / 4294967296) % 65536)) without_leaf

-- of 32 bits 16 to 31 are the node and 32 to 47 the step
abbrev pub read_walk : ℕ → Answer WalkEnd
read_walk y = pick (eqb (y % 65536) stuck_refusal) (answers (stuck_at ((y / 65536) % 65536) ((y / 4294967296) % 65536))) (read_answer read_end y)

-- a text: bits 16 to 31 are where it starts in the panel, 32 to 47 its length
abbrev pub read_span : ℕ → Span
read_span y = record { start = (y / 65536) % 65536; count = (y / 4294967296) % 65536 }

-- the fit check, which says no more than that it fits
abbrev pub read_verdict : ℕ → Verdict
read_verdict y = pick (eqb (y % 65536) 0) accepted (refused (y % 65536) ((y / 65536) % 65536))

-- a refusal number and its place, of 16 bits each
pub record Refusal (number place : ℕ) : Type 0 where
  pub some_number : 0 < number
  pub number_word : number < 65536
  pub place_word : place < 65536

refusal_bits : (number place : ℕ) → Refusal number place → ReadsBack (packed number place 0 0) number place 0 0
refusal_bits number place w =
    packed_reads_back number place 0 0 (record { first = w.number_word; second = w.place_word; third = omega arith; fourth = omega arith })

refusal_read : {A : Type 0} (f : ℕ → A) (number place : ℕ) → Refusal number place → read_answer f (packed number place 0 0) ≡ refuses number place
refusal_read f number place w =
    let r = refusal_bits number place w in
    rw (r.bits_0_to_15, ne_eqb number 0 (λ e. omega (arith, e, w.some_number)), r.bits_16_to_31) refl

verdict_read : (number place : ℕ) → Refusal number place → read_verdict (packed number place 0 0) ≡ refused number place
verdict_read number place w =
    let r = refusal_bits number place w in
    rw (r.bits_0_to_15, ne_eqb number 0 (λ e. omega (arith, e, w.some_number)), r.bits_16_to_31) refl

answer_read : {A : Type 0} (f : ℕ → A) (b c d : ℕ) → Words 0 b c d → read_answer f (packed 0 b c d) ≡ answers (f (packed 0 b c d))
answer_read f b c d w = let r = packed_reads_back 0 b c d w in rw r.bits_0_to_15 refl

-- a word that is not 32's
not_stuck_read : (y : ℕ) → (y % 65536 ≡ stuck_refusal → ⊥) → read_walk y ≡ read_answer read_end y
not_stuck_read y other = rw (ne_eqb (y % 65536) stuck_refusal other)

-- what each answer packs
packed_tree : (x : Built) → packed_build (answers x) ≡ packed 0 x.bytes x.nodes x.bindings
unfolding packed_build
packed_tree x = refl

packed_unbuilt : (number place : ℕ) → packed_build (refuses number place) ≡ packed number place 0 0
unfolding packed_build
packed_unbuilt number place = refl

packed_unfit : (number place : ℕ) → packed_fit (refused number place) ≡ packed number place 0 0
unfolding packed_fit
packed_unfit number place = refl

packed_leaf : (clause count : ℕ) → packed_walk (answers (leaf_of clause count)) ≡ packed 0 clause count 1
unfolding packed_walk
packed_leaf clause count = refl

packed_stuck : (node step : ℕ) → packed_walk (answers (stuck_at node step)) ≡ packed stuck_refusal node step 0
unfolding packed_walk
packed_stuck node step = refl

packed_unwalked : (number place : ℕ) → packed_walk (refuses number place) ≡ packed number place 0 0
unfolding packed_walk
packed_unwalked number place = refl

packed_span : (x : Span) → packed_text (answers x) ≡ packed 0 x.start x.count 0
unfolding packed_text
packed_span x = refl

packed_untold : (number place : ℕ) → packed_text (refuses number place) ≡ packed number place 0 0
unfolding packed_text
packed_untold number place = refl

-- THEOREM: what a build answered is read in its number
pub built_reads_back : (x : Built) → Words 0 x.bytes x.nodes x.bindings → read_answer read_built (packed_build (answers x)) ≡ answers x
built_reads_back x w =
    let r = packed_reads_back 0 x.bytes x.nodes x.bindings w in
    ap (read_answer read_built) (packed_tree x)
    ∙ answer_read read_built x.bytes x.nodes x.bindings w
    ∙ rw (r.bits_16_to_31, r.bits_32_to_47, r.bits_48_to_63) refl

pub unbuilt_reads_back : (number place : ℕ) → Refusal number place → read_answer read_built (packed_build (refuses number place)) ≡ refuses number place
unbuilt_reads_back number place w = ap (read_answer read_built) (packed_unbuilt number place) ∙ refusal_read read_built number place w

-- THEOREM: what a fit check answered is read in its number
pub fits_reads_back : read_verdict (packed_fit accepted) ≡ accepted
unfolding packed_fit
fits_reads_back = refl

pub unfit_reads_back : (number place : ℕ) → Refusal number place → read_verdict (packed_fit (refused number place)) ≡ refused number place
unfit_reads_back number place w = ap read_verdict (packed_unfit number place) ∙ verdict_read number place w

-- THEOREM: what a walk answered is read in its number
pub leaf_reads_back : (clause count : ℕ) → Words 0 clause count 1 → read_walk (packed_walk (answers (leaf_of clause count))) ≡ answers (leaf_of clause count)
leaf_reads_back clause count w =
    let r = packed_reads_back 0 clause count 1 w in
    ap read_walk (packed_leaf clause count)
    ∙ not_stuck_read (packed 0 clause count 1) (λ e. omega (arith, e, r.bits_0_to_15))
    ∙ answer_read read_end clause count 1 w
    ∙ rw (r.bits_48_to_63, r.bits_16_to_31, r.bits_32_to_47) refl

pub no_leaf_reads_back : read_walk (packed_walk (answers without_leaf)) ≡ answers without_leaf
unfolding packed_walk
no_leaf_reads_back = refl

pub stuck_reads_back : (node step : ℕ) → Words stuck_refusal node step 0 → read_walk (packed_walk (answers (stuck_at node step))) ≡ answers (stuck_at node step)
stuck_reads_back node step w =
    let r = packed_reads_back stuck_refusal node step 0 w in
    ap read_walk (packed_stuck node step) ∙ rw (r.bits_0_to_15, r.bits_16_to_31, r.bits_32_to_47) refl

pub unwalked_reads_back : (number place : ℕ) → Refusal number place → (number ≡ stuck_refusal → ⊥) → read_walk (packed_walk (refuses number place)) ≡ refuses number place
unwalked_reads_back number place w other =
    let r = refusal_bits number place w in
    ap read_walk (packed_unwalked number place)
    ∙ not_stuck_read (packed number place 0 0) (λ e. other (sym r.bits_0_to_15 ∙ e))
    ∙ refusal_read read_end number place w

-- THEOREM: where a text stands is read in its number
pub span_reads_back : (x : Span) → Words 0 x.start x.count 0 → read_answer read_span (packed_text (answers x)) ≡ answers x
span_reads_back x w =
    let r = packed_reads_back 0 x.start x.count 0 w in
    ap (read_answer read_span) (packed_span x) ∙ answer_read read_span x.start x.count 0 w ∙ rw (r.bits_16_to_31, r.bits_32_to_47) refl

pub no_text_reads_back : (number place : ℕ) → Refusal number place → read_answer read_span (packed_text (refuses number place)) ≡ refuses number place
no_text_reads_back number place w = ap (read_answer read_span) (packed_untold number place) ∙ refusal_read read_span number place w
