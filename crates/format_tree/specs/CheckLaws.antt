-- What the check uses: each stage's answer, put together to the rules' one test of a tree file; and what a file has that the check
-- accepts, for the code above it.
use Rattle.std.specs.Prelude.{◌≡◌, refl, Bool, true, false, List, ℕ, ◌≤◌, leb, eqb, length}
use Rattle.std.proofs.Common.{leb-true}
use Rattle.base_words.specs.Words.{Bytes, both}
use Rattle.base_words.specs.WordsLaws.{both_true, both_assoc}
use Rattle.spec_rules.specs.Limits.{tree_trailer}
use Rattle.spec_rules.specs.RefusalNumbers.{tree_refusal}
use Rattle.spec_rules.specs.SheetRefusals.{Verdict, accepted, refused, require}
use Rattle.spec_rules.specs.Calls.{tree_file_verdict}
use Rattle.spec_rules.specs.TreeReader.{tree_length, length_true, starts_rise, nodes_in_pre_order, tree_fits}
use Rattle.spec_accepted.specs.TreeFacts.{TreeRuled, TreeSound, tree_laid, tree_ruled, tree_sound}
use Rattle.format_parts.specs.RefusalsLaws.{passes, fails}
use Rattle.format_tree.specs.declared.layout.TreeMap.{TreeMap}
use Rattle.format_tree.specs.Reading.{map_of, Mapped, Ruled, records_keep_rules}
use Rattle.format_tree.specs.ReadingLaws.{mapped}

fits_by_stages : (t : List ℕ) → tree_fits t ≡ both (length_true t) (both (starts_rise t) (both (records_keep_rules t) (nodes_in_pre_order t)))
unfolding tree_fits records_keep_rules
fits_by_stages t = simp both_assoc

pub long_enough : (t : List ℕ) → length_true t ≡ true → tree_trailer ≤ length t
unfolding length_true
long_enough t h = leb-true tree_trailer (length t) (both_true (leb tree_trailer (length t)) (eqb (tree_length t) (length t)) h).0

pub rules_kept : (t : List ℕ) → records_keep_rules t ≡ true → TreeRuled t
unfolding records_keep_rules
rules_kept t h =
    let p = both_true _ _ h in
    let q = both_true _ _ p.1 in
    let r = both_true _ _ q.1 in
    let s = both_true _ _ r.1 in
    tree_ruled t p.0 q.0 r.0 s.0 s.1

-- m is the map that was read of a file with a true length and rising starts
module _ (t : List ℕ) (bytes : Bytes t) (long : length_true t ≡ true) (rise : starts_rise t ≡ true) (m : TreeMap) (is : m ≡ map_of t) where
  pub map_read : Mapped t m
  map_read = rw is (mapped t bytes (tree_laid t long rise))

  pub rules_read : records_keep_rules t ≡ true → Ruled t m
  rules_read h = record { mapped = map_read; rules = rules_kept t h }

-- the stages one after the other, as the check goes through them
by_parts : (a b : Bool) (n : ℕ) (further : Verdict) → require (both a b) n further ≡ require a n (require b n further)
by_parts true b n further = refl
by_parts false b n further = refl

pub verdict_by_stages : (t : List ℕ) → tree_file_verdict t
    ≡ require (length_true t) tree_refusal (require (starts_rise t) tree_refusal (require (records_keep_rules t) tree_refusal (require (nodes_in_pre_order t) tree_refusal accepted)))
unfolding tree_file_verdict
verdict_by_stages t = rw (fits_by_stages t) (simp by_parts)

-- ---- an accepted file
pub record Accept (t : List ℕ) (m : TreeMap) : Type 0 where
  pub map_is : Mapped t m
  pub fits : tree_fits t ≡ true
  pub sound : TreeSound t

pub accepted_is : (t : List ℕ) (m : TreeMap) → Bytes t → accepted ≡ tree_file_verdict t → m ≡ map_of t → Accept t m
unfolding tree_file_verdict
accepted_is t m bytes e is =
    let f = passes (tree_fits t) tree_refusal e in
    let s = tree_sound t f in
    record { map_is = rw is (mapped t bytes s.is_laid); fits = f; sound = s }

pub refused_is : (t : List ℕ) {number place : ℕ} → refused number place ≡ tree_file_verdict t → tree_fits t ≡ false
unfolding tree_file_verdict
refused_is t e = fails (tree_fits t) tree_refusal e
