-- The whole tail by its parts: the room that each part has, and that the parts one behind the other are the tail.
-- Rests on the lengths of the sections and the laws of stores.
use Rattle.std.specs.Prelude.{◌≡◌, ℕ, ◌+◌, ◌-◌, ◌*◌, ◌≤◌, ◌<◌, get_or}
use Rattle.std.proofs.Common.{sym, ◌∙◌, arith}
use Rattle.std.proofs.Math.Path.{ap}
use mathlib.Core.List.{List, ◌++◌, map}
use Rattle.std.proofs.Math.ListN.{length}
use Rattle.std.proofs.lemmas.List.{length-map}
use Rattle.base_words.specs.Words.{text_at}
use Rattle.base_words.specs.WordsLaws.{length_text_at}
use Rattle.base_words.specs.Stored.{stored}
use Rattle.spec_rules.specs.Limits.{patterns_most, path_size, step_size, tree_trailer, tree_room}
use Rattle.spec_rules.specs.SheetFile.{pool_size, pool}
use Rattle.spec_rules.specs.TreeFile.{path_steps, paths_bytes, steps_bytes}
use Rattle.spec_file.specs.Writable.{steps_in}
use Rattle.spec_file.specs.LengthLaws.{length_paths_bytes, length_steps_bytes}
use Rattle.format_sheet.specs.declared.SheetMap.{SheetMap}
use Rattle.build_table.specs.Standing.{path_of}
use Rattle.build_table.specs.Table.{table_size}
use Rattle.build_file_tail.specs.Tail.{Puts, Begun, Used, used_paths, count_in, together, path_records, trailer_bytes, tail_bytes, TailReady}
use Rattle.build_file_tail.specs.StoringLaws.{length_put, puts_then, puts_as, begun_more, begun_room, begun_all, rest_next, rest_none}
use Rattle.build_file_tail.specs.RecordsLaws.{path_records_lem, path_counts, pool_size_lem, pool_room, pool_text_lem}
use Rattle.build_file_tail.specs.FileLaws.{length_tail, length_trailer}

-- ---- the steps of classes, put one path behind the other: those of the first i are there, up to `end`
module _ (s classes before : List ℕ) (at n : ℕ) where
  abbrev pub Stepped : List ℕ → ℕ → ℕ → Type 0
  Stepped now end i = Begun before now at end (steps_bytes (used_paths s classes 0 n)) (steps_bytes (used_paths s classes i (n - i)))

  module _ {now : List ℕ} {end i : ℕ} (b : Stepped now end i) where
    module _ (inside : n ≤ length classes) (l : i < n) (class : ℕ) (e : class ≡ get_or classes i 0) where
      next_steps : steps_bytes (used_paths s classes i (n - i)) ≡ path_steps (path_of s class) ++ steps_bytes (used_paths s classes (i + 1) (n - (i + 1)))
      unfolding steps_bytes
      next_steps =
          ap (λ (xs : List ℕ). steps_bytes (map (path_of s) xs)) (rest_next classes i i n (omega arith) l)
          ∙ ap (λ (k : ℕ). path_steps (path_of s k) ++ steps_bytes (used_paths s classes (i + 1) (n - (i + 1)))) (sym e)

      pub stepped_room : end + length (path_steps (path_of s class)) ≤ at + length (steps_bytes (used_paths s classes 0 n))
      stepped_room = begun_room b (path_steps (path_of s class)) (steps_bytes (used_paths s classes (i + 1) (n - (i + 1)))) next_steps

      pub stepped_more : {next : List ℕ} {to : ℕ} → Puts now next end to (path_steps (path_of s class)) → Stepped next to (i + 1)
      stepped_more w = begun_more b w (steps_bytes (used_paths s classes (i + 1) (n - (i + 1)))) next_steps

    pub stepped_all : n ≤ i → Puts before now at end (steps_bytes (used_paths s classes 0 n))
    unfolding steps_bytes
    stepped_all l = begun_all b (ap (λ (xs : List ℕ). steps_bytes (map (path_of s) xs)) (rest_none classes i i n l))

-- ---- room
module _ {s : List ℕ} {m : SheetMap} {t classes : List ℕ} {n : ℕ} {tree : List ℕ} {cases bindings at : ℕ} (r : TailReady s m t classes n tree cases bindings at) where
  length_used : length (used_paths s classes 0 n) ≡ n
  length_used = length-map (text_at classes 0 n) (path_of s) ∙ length_text_at classes 0 n (omega (arith, r.used.inside))

  length_pool : length (pool s) ≡ pool_size s
  length_pool =
      ap length (sym (pool_text_lem r.checked))
      ∙ length_text_at s m.pool.start m.pool.count (pool_room r.checked)
      ∙ pool_size_lem r.checked

  -- how long the parts are
  pub parts_long : length (tail_bytes (pool s) (used_paths s classes 0 n) cases bindings at) ≡ path_size * n + step_size * steps_in (used_paths s classes 0 n) + pool_size s + tree_trailer
  parts_long = omega (arith, length_tail (pool s) (used_paths s classes 0 n) cases bindings at, length_used, length_pool)

  pub paths_asked : ((length t ≡ table_size) × Used patterns_most classes n × (at + path_size * n ≤ length tree))
      × (together (map (count_in t) (text_at classes 0 n)) < tree_room)
  paths_asked = (
    (
      r.tabled.long,
      record { inside = r.used.inside; known = λ i h. omega (arith, r.used.known i h, r.checked.ok.is_counted.patterns_most_holds) },
      omega (arith, r.inside, parts_long),
    ),
    omega (arith, r.small, parts_long, path_counts r.tabled r.used),
  )

  module _ {l₁ : List ℕ} {steps : ℕ} (p : Puts tree l₁ at steps (path_records 0 (map (count_in t) (text_at classes 0 n)))) where
    paths_put : Puts tree l₁ at steps (paths_bytes 0 (used_paths s classes 0 n))
    paths_put = puts_as p (path_records_lem r.tabled r.used)

    steps_start : steps ≡ at + path_size * n
    steps_start = omega (arith, paths_put.is_end, length_paths_bytes 0 (used_paths s classes 0 n), length_used)

    pub steps_asked : steps + length (steps_bytes (used_paths s classes 0 n)) ≤ length l₁
    steps_asked = omega (arith, r.inside, parts_long, steps_start, length_put p, length_steps_bytes (used_paths s classes 0 n))

    module _ {l₂ : List ℕ} {start : ℕ} (q : Puts l₁ l₂ steps start (steps_bytes (used_paths s classes 0 n))) where
      pool_start : start ≡ at + path_size * n + step_size * steps_in (used_paths s classes 0 n)
      pool_start = omega (arith, q.is_end, steps_start, length_steps_bytes (used_paths s classes 0 n))

      pub pool_asked : start + pool_size s ≤ length l₂
      pool_asked = omega (arith, r.inside, parts_long, pool_start, length_put p, length_put q)

      module _ {l₃ : List ℕ} {end : ℕ} (u : Puts l₂ l₃ start end (pool s)) where
        trailer_start : end + tree_trailer ≡ at + length (tail_bytes (pool s) (used_paths s classes 0 n) cases bindings at)
        trailer_start = omega (arith, u.is_end, pool_start, parts_long, length_pool)

        pub trailer_asked : ((end + tree_trailer ≤ length l₃) × (end + tree_trailer < tree_room))
            × ((cases ≤ bindings) × (bindings ≤ at) × (at ≤ steps) × (steps ≤ start) × (start ≤ end))
        trailer_asked = (
          (omega (arith, r.inside, trailer_start, length_put p, length_put q, length_put u), omega (arith, r.small, trailer_start)),
          (r.cases_first, r.bindings_first, omega (arith, steps_start), omega (arith, steps_start, pool_start), omega (arith, u.is_end)),
        )

        -- ---- the tail
        pub tail_put : {l₄ : List ℕ} → l₄ ≡ stored l₃ end (trailer_bytes cases bindings at steps start end)
            → Puts tree l₄ at (end + tree_trailer) (tail_bytes (pool s) (used_paths s classes 0 n) cases bindings at)
        unfolding tail_bytes
        tail_put {l₄} e =
            let table = used_paths s classes 0 n in
            let ps = paths_bytes 0 table in
            let ss = steps_bytes table in
            let to_steps : steps ≡ at + length ps = paths_put.is_end in
            let to_pool : start ≡ at + length ps + length ss = q.is_end ∙ ap (λ (k : ℕ). k + length ss) to_steps in
            let to_end : end ≡ at + length ps + length ss + length (pool s) = u.is_end ∙ ap (λ (k : ℕ). k + length (pool s)) to_pool in
            let same : trailer_bytes cases bindings at steps start end
            ≡ trailer_bytes cases bindings at (at + length ps) (at + length ps + length ss) (at + length ps + length ss + length (pool s)) =
            λ i. trailer_bytes cases bindings at (to_steps i) (to_pool i) (to_end i) in
            let last : Puts l₃ l₄ end (end + tree_trailer) (trailer_bytes cases bindings at steps start end) = record {
              is_stored = e;
              is_end = ap (λ (k : ℕ). end + k) (sym (length_trailer cases bindings at steps start end));
            } in
            puts_then paths_put (puts_then q (puts_then u (puts_as last same)))
