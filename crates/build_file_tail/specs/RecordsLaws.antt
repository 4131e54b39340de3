-- The path records by the table's counts of steps are those of the paths; the pool by the sheet's map.
-- Rests on Tail and on what the table says.
use Rattle.std.specs.Prelude.{◌≡◌, refl, ℕ, zero, suc, ◌+◌, ◌-◌, ◌*◌, ◌≤◌, ◌<◌, length, get_or}
use Rattle.std.proofs.Common.{sym, ◌∙◌}
use Rattle.std.proofs.Math.Path.{ap}
use mathlib.Core.List.{List, [], ◌∷◌, ◌++◌, map}
use native.Mathlib.Omega.{arith}
use Rattle.std.proofs.Math.Nat.{add-zero}
use Rattle.base_words.specs.Words.{text_at}
use Rattle.base_words.specs.Stored.{stored}
use Rattle.spec_rules.specs.Limits.{path_size}
use Rattle.spec_rules.specs.SheetFile.{patterns, pool_at, pool_size, pool_text, pool}
use Rattle.spec_rules.specs.Rows.{Path}
use Rattle.spec_rules.specs.TreeFile.{paths_bytes}
use Rattle.spec_file.specs.Writable.{steps_in}
use Rattle.format_sheet.specs.declared.SheetMap.{SheetMap}
use Rattle.format_sheet.specs.SectionsLaws.{mapped}
use Rattle.build_table.specs.Standing.{path_of}
use Rattle.format_sheet.specs.Check.{SheetAccepts}
use Rattle.build_table.specs.Tabled.{Tabled}
use Rattle.build_file_tail.specs.Tail.{Puts, Begun, Used, used_paths, count_in, together, path_record, path_records}
use Rattle.build_file_tail.specs.StoringLaws.{begun_more, begun_all, text_next, rest_next, rest_none}

-- ---- path records
records_paths : (first : ℕ) (ps : List Path) → path_records first (map length ps) ≡ paths_bytes first ps
unfolding path_records paths_bytes
records_paths first [] = refl
records_paths first (p ∷ ps) = ap (λ (xs : List ℕ). path_record first (length p) ++ xs) (records_paths (first + length p) ps)

together_steps : (ps : List Path) → together (map length ps) ≡ steps_in ps
unfolding together steps_in
together_steps [] = refl
together_steps (p ∷ ps) = ap (λ (n : ℕ). length p + n) (together_steps ps)

-- the table's counts are the paths' lengths
module _ {s t : List ℕ} (tabled : Tabled s t) {classes : List ℕ} {n : ℕ} (used : Used (patterns s) classes n) where
  counts_lengths : (k i : ℕ) → i + k ≤ n → map (count_in t) (text_at classes i k) ≡ map length (used_paths s classes i k)
  counts_lengths zero i h = refl
  counts_lengths (suc k) i h =
      let inside : i < length classes = omega (arith, used.inside) in
      let next : text_at classes i (suc k) ≡ get_or classes i 0 ∷ text_at classes (i + 1) k = text_next classes i k inside in
      let here : count_in t (get_or classes i 0) ≡ length (path_of s (get_or classes i 0)) = (tabled.classed (get_or classes i 0) (used.known i (omega arith))).depth in
      ap (map (count_in t)) next
      ∙ ap (λ (x : ℕ). x ∷ map (count_in t) (text_at classes (i + 1) k)) here
      ∙ ap (λ (xs : List ℕ). length (path_of s (get_or classes i 0)) ∷ xs) (counts_lengths k (i + 1) (omega arith))
      ∙ ap (λ (xs : List ℕ). map length (map (path_of s) xs)) (sym next)

  pub path_records_lem : path_records 0 (map (count_in t) (text_at classes 0 n)) ≡ paths_bytes 0 (used_paths s classes 0 n)
  path_records_lem = ap (path_records 0) (counts_lengths n 0 (omega arith)) ∙ records_paths 0 (used_paths s classes 0 n)

  pub path_counts : together (map (count_in t) (text_at classes 0 n)) ≡ steps_in (used_paths s classes 0 n)
  path_counts = ap together (counts_lengths n 0 (omega arith)) ∙ together_steps (used_paths s classes 0 n)

-- ---- the pool, by the sheet's map
module _ {s : List ℕ} {m : SheetMap} (ch : SheetAccepts s m) where
  pub pool_size_lem : m.pool.count ≡ pool_size s
  pool_size_lem = (mapped s m ch.is_map).of_pool

  pub pool_room : m.pool.start + m.pool.count ≤ length s
  pool_room =
      omega (arith, (mapped s m ch.is_map).at_pool, pool_size_lem, ch.ok.is_laid.pool_end_holds, ch.ok.is_laid.trailer_end)

  pub pool_text_lem : text_at s m.pool.start m.pool.count ≡ pool s
  unfolding pool pool_text
  pool_text_lem = rw ((mapped s m ch.is_map).at_pool, pool_size_lem, add-zero (pool_at s))

-- ---- path records put one behind the other: those of the first i classes are there, with `first` steps
module _ (t classes before : List ℕ) (at n : ℕ) where
  pub record Recorded (now : List ℕ) (first i : ℕ) : Type 0 where
    pub begun_so : Begun before now at (at + path_size * i) (path_records 0 (map (count_in t) (text_at classes 0 n))) (path_records first (map (count_in t) (text_at classes i (n - i))))
    pub counted : first + together (map (count_in t) (text_at classes i (n - i))) ≡ together (map (count_in t) (text_at classes 0 n))

  module _ {now : List ℕ} {first i : ℕ} (r : Recorded now first i) where
    module _ (inside : n ≤ length classes) (l : i < n) where
      next_counts : map (count_in t) (text_at classes i (n - i)) ≡ count_in t (get_or classes i 0) ∷ map (count_in t) (text_at classes (i + 1) (n - (i + 1)))
      next_counts = ap (map (count_in t)) (rest_next classes i i n (omega arith) l)

      next_counted : first + (count_in t (get_or classes i 0) + together (map (count_in t) (text_at classes (i + 1) (n - (i + 1)))))
          ≡ together (map (count_in t) (text_at classes 0 n))
      unfolding together
      next_counted = ap (λ (ns : List ℕ). first + together ns) (sym next_counts) ∙ r.counted

      -- the steps counted with the next path's are no more than all
      pub recorded_small : (class count : ℕ) → class ≡ get_or classes i 0 → count ≡ count_in t class
          → first + count ≤ together (map (count_in t) (text_at classes 0 n))
      recorded_small class count e f = rw (f, e) (omega (arith, next_counted))

      pub recorded_more : {next : List ℕ} (class count : ℕ) → class ≡ get_or classes i 0 → count ≡ count_in t class
          → next ≡ stored now (at + path_size * i) (path_record first count) → Recorded next (first + count) (i + 1)
      unfolding path_records
      recorded_more {next} class count e f g =
          let same : count ≡ count_in t (get_or classes i 0) = f ∙ ap (count_in t) e in
          let rest = map (count_in t) (text_at classes (i + 1) (n - (i + 1))) in
          let put : Puts now next (at + path_size * i) (at + path_size * (i + 1)) (path_record first count) = record { is_stored = g; is_end = omega arith } in
          let opened : path_records first (map (count_in t) (text_at classes i (n - i))) ≡ path_record first count ++ path_records (first + count) rest =
          ap (path_records first) next_counts ∙ ap (λ (k : ℕ). path_record first k ++ path_records (first + k) rest) (sym same) in
          record {
            begun_so = begun_more r.begun_so put (path_records (first + count) rest) opened;
            counted = rw same (omega (arith, next_counted));
          }

    pub recorded_all : i ≤ n → n ≤ i → Puts before now at (at + path_size * n) (path_records 0 (map (count_in t) (text_at classes 0 n)))
    unfolding path_records
    recorded_all h l =
        let w = begun_all r.begun_so (ap (λ (xs : List ℕ). path_records first (map (count_in t) xs)) (rest_none classes i i n l)) in
        record { is_stored = w.is_stored; is_end = omega (arith, w.is_end) }
