-- Collecting the names of a pattern (refusal 11): its own, then those of each child.
use Rattle.std.specs.Prelude.{◌≡◌, refl, Bool, true, false, List, ◌++◌, ℕ, ◌+◌, ◌-◌, ◌≤◌, ◌<◌, length}
use Rattle.std.proofs.Common.{ap, sym, ◌∙◌, append_assoc, arith, length-append}
use Rattle.base_words.specs.Words.{pick}
use Rattle.spec_rules.specs.Limits.{patterns_most}
use Rattle.spec_rules.specs.SheetFile.{patterns, clauses, pattern_kind, pattern_first, pattern_count, child, root}
use Rattle.spec_rules.specs.Patterns.{pattern_kind_of}
use Rattle.spec_rules.specs.SheetRefusals.{has_children, repeats, name_twice}
use Rattle.spec_accepted.specs.SheetFacts.{Owns, owned_pattern}
use Rattle.format_sheet.specs.declared.SheetMap.{SheetMap}
use Rattle.format_sheet.specs.declared.records.Run.{Run}
use Rattle.format_sheet.specs.Shape.{children_first, children_count, children_of}
use Rattle.format_sheet.specs.Fitting.{ReadySheet}
use Rattle.format_sheet.specs.Names.{own_name, joined, names_in, Names, in_buffer, held, Adds, Lacks}
use Rattle.format_sheet.specs.NamesLaws.{names_open, clause_names, joined_next, joined_end, lacks_less, lacks_nothing}
use Rattle.format_sheet.specs.ForestLaws.{names_few}

-- an entry of the run of children is owned
owned_run : (s : List ℕ) (p k : ℕ) → k < children_count s p → Owns s p (children_first s p + k)
unfolding children_first children_count
owned_run s p k h = go (has_children (pattern_kind_of (pattern_kind s p))) refl h
  where
    go : (b : Bool) → has_children (pattern_kind_of (pattern_kind s p)) ≡ b → k < pick b (pattern_count s p) 0 → Owns s p (pick b (pattern_first s p) 0 + k)
    go true e l = record { parent = e; from = omega arith; to = omega arith }
    go false e l = absurd (omega arith)

pub run_owned : (s : List ℕ) (p : ℕ) (r : Run) → r ≡ children_of s p → (k : ℕ) → k < r.count → Owns s p (r.first + k)
run_owned s p r e k h =
    let first : r.first ≡ children_first s p = ap (λ (x : Run). x.first) e in
    let count : r.count ≡ children_count s p = ap (λ (x : Run). x.count) e in
    rw first (owned_run s p k (omega arith))

-- one after the other
adds_both : (a b c : Names) (xs ys : List ℕ) → Adds a xs b → Adds b ys c → Adds a (xs ++ ys) c
adds_both a b c xs ys f g = record {
  kept = g.kept ∙ f.kept;
  counted = omega (arith, g.counted, f.counted, length-append xs ys);
  holds = g.holds ∙ ap (λ (z : List ℕ). z ++ ys) f.holds ∙ append_assoc (held a) xs ys;
}

module _ (s : List ℕ) (m : SheetMap) (ready : ReadySheet s m) (p : ℕ) (h : p < patterns s) where
  pub own_room : (n : ℕ) → n + length (names_in s p) ≤ patterns_most → n + length (own_name s p) ≤ patterns_most
  own_room n few =
      omega (arith, ap length (names_open s ready.is_shaped ready.is_counted p h) ∙ length-append (own_name s p) (joined (λ j. names_in s (child s j)) (children_first s p) (children_count s p)))

  module _ (r : Run) (e : r ≡ children_of s p) where
    -- the names of the children
    abbrev pub inside : List ℕ
    inside = joined (λ j. names_in s (child s j)) r.first r.count

    -- those of the children from k on
    abbrev pub inside_from : ℕ → List ℕ
    inside_from k = joined (λ j. names_in s (child s j)) (r.first + k) (r.count - k)

    names_are : names_in s p ≡ own_name s p ++ inside
    names_are = names_open s ready.is_shaped ready.is_counted p h ∙ ap (λ (x : Run). own_name s p ++ joined (λ j. names_in s (child s j)) x.first x.count) (sym e)

    module _ (names start next : Names) (k q : ℕ) (l : k < r.count) (f : q ≡ child s (r.first + k)) (lacks : Lacks start inside next (inside_from k)) where
      rest_is : inside_from k ≡ names_in s q ++ inside_from (k + 1)
      rest_is = joined_next s (λ j. names_in s (child s j)) r.first r.count k l ∙ ap (λ (x : ℕ). names_in s x ++ inside_from (k + 1)) (sym f)

      pub child_known : (p < q) × (q < patterns s)
      child_known =
          let o = run_owned s p r e k l in
          (omega (arith, f, ready.is_shaped.child_above p (r.first + k) h o), omega (arith, f, owned_pattern ready.is_shaped p (r.first + k) h o))

      pub collect_room : length names.found ≡ patterns_most → names.count + length (names_in s p) ≤ patterns_most → Adds names (own_name s p) start
          → (length next.found ≡ patterns_most) × (next.count + length (names_in s q) ≤ patterns_most)
      collect_room long few own = (
        lacks.kept ∙ own.kept ∙ long,
        omega (arith, few, own.counted, lacks.counted, ap length names_are ∙ length-append (own_name s p) inside, ap length rest_is ∙ length-append (names_in s q) (inside_from (k + 1))),
      )

      pub collect_goes_on : (next' : Names) → Adds next (names_in s q) next' → Lacks start inside next' (inside_from (k + 1))
      collect_goes_on next' a = lacks_less start next next' inside (names_in s q) (inside_from k) (inside_from (k + 1)) lacks rest_is a

    pub collect_ends : (names start next : Names) (k : ℕ) → r.count ≤ k → Adds names (own_name s p) start → Lacks start inside next (inside_from k) → Adds names (names_in s p) next
    collect_ends names start next k l own lacks =
        rw names_are (adds_both names start next (own_name s p) inside own (lacks_nothing start next inside (inside_from k) lacks (joined_end s (λ j. names_in s (child s j)) r.first r.count k l)))

-- ---- the names of a clause, from none in a buffer of whatever it holds
pub clause_room : (s : List ℕ) (m : SheetMap) → ReadySheet s m → (c q : ℕ) → c < clauses s → q ≡ root s c → 0 + length (names_in s q) ≤ patterns_most
clause_room s m ready c q h e = omega (arith, names_few s ready.is_shaped ready.is_counted c h, ap (λ (x : ℕ). length (names_in s x)) e)

pub clause_held : (s : List ℕ) (m : SheetMap) → ReadySheet s m → (c q : ℕ) → c < clauses s → q ≡ root s c → (l : List ℕ) → length l ≡ patterns_most → (r : Names)
    → Adds (in_buffer l 0) (names_in s q) r → (length r.found ≡ patterns_most) × (r.count ≤ patterns_most) × (repeats (held r) ≡ name_twice s c)
unfolding name_twice
clause_held s m ready c q h e l long r a = (
  a.kept ∙ long,
  omega (arith, a.counted, names_few s ready.is_shaped ready.is_counted c h, ap (λ (x : ℕ). length (names_in s x)) e),
  ap repeats (a.holds ∙ ap (names_in s) e ∙ sym (clause_names s ready.is_shaped c h)),
)
