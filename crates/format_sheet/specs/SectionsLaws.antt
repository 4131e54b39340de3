-- That the layout and the map of a sheet are what was read of its trailer, that refusal 5 over a map is that of spec_rules, and what the fields of a sheet's map are.
use Rattle.std.specs.Prelude.{◌≡◌, refl, Bool, List, [], ◌∷◌, ℕ, ◌-◌, eqb, length}
use Rattle.std.proofs.Common.{ap, div-one}
use Rattle.base_words.specs.Words.{both}
use Rattle.spec_rules.specs.Limits.{type_size, constructor_size, entry_size, pattern_size, child_size, clause_size, sheet_trailer}
use Rattle.spec_rules.specs.SheetFile.{sheet_start, subject, types_at, constructors_at, entries_at, patterns_at, children_at, clauses_at, pool_at, pool_end, sheet_sizes, types, constructors, entries, patterns, children, clauses, pool_size}
use Rattle.spec_rules.specs.SheetRefusals.{whole_between, layout_fits, counts_fit}
use Rattle.format_parts.specs.declared.sections.Section.{Section}
use Rattle.format_parts.specs.Sections.{section_of}
use Rattle.format_sheet.specs.declared.SheetMap.{SheetMap}
use Rattle.format_sheet.specs.Sections.{map_of, few_enough}

-- the layout of sections that start at a to g, before a trailer at end
abbrev pub starts_fit : ℕ → ℕ → ℕ → ℕ → ℕ → ℕ → ℕ → ℕ → Bool
starts_fit a b c d e f g end = both (eqb a 0) (whole_between sheet_sizes (a ∷ b ∷ c ∷ d ∷ e ∷ f ∷ g ∷ end ∷ []))

pub layout_read : (s : List ℕ) → layout_fits s ≡ starts_fit (sheet_start s 0) (sheet_start s 1) (sheet_start s 2) (sheet_start s 3) (sheet_start s 4) (sheet_start s 5) (sheet_start s 6) (length s - sheet_trailer)
unfolding layout_fits types_at constructors_at entries_at patterns_at children_at clauses_at pool_at pool_end
layout_read s = refl

module _ (s : List ℕ) (a b c d e f g : ℕ)
    (ea : a ≡ sheet_start s 0) (eb : b ≡ sheet_start s 1) (ec : c ≡ sheet_start s 2) (ed : d ≡ sheet_start s 3)
    (ee : e ≡ sheet_start s 4) (ef : f ≡ sheet_start s 5) (eg : g ≡ sheet_start s 6) where
  -- the map, made of sections from one start to the next
  pub map_read : (ty co en pa ch cl po : Section) (n : ℕ)
      → ty ≡ section_of a b type_size → co ≡ section_of b c constructor_size → en ≡ section_of c d entry_size
      → pa ≡ section_of d e pattern_size → ch ≡ section_of e f child_size → cl ≡ section_of f g clause_size
      → po ≡ section_of g (length s - sheet_trailer) 1 → n ≡ subject s
      → ◌≡◌ {A = SheetMap} (record { types = ty; constructors = co; entries = en; patterns = pa; children = ch; clauses = cl; pool = po; subject = n }) (map_of s)
  unfolding types_at constructors_at entries_at patterns_at children_at clauses_at pool_at pool_end types constructors entries patterns children clauses pool_size
  map_read ty co en pa ch cl po n e₁ e₂ e₃ e₄ e₅ e₆ e₇ es = simp (e₁, e₂, e₃, e₄, e₅, e₆, e₇, es, ea, eb, ec, ed, ee, ef, eg, div-one)

pub few_enough_is : (s : List ℕ) → few_enough (map_of s) ≡ counts_fit s
unfolding few_enough counts_fit
few_enough_is s = refl

-- the fields of a map, as numbers of the sheet
pub record Mapped (s : List ℕ) (m : SheetMap) : Type 0 where
  pub at_types : m.types.start ≡ types_at s
  pub at_constructors : m.constructors.start ≡ constructors_at s
  pub at_entries : m.entries.start ≡ entries_at s
  pub at_patterns : m.patterns.start ≡ patterns_at s
  pub at_children : m.children.start ≡ children_at s
  pub at_clauses : m.clauses.start ≡ clauses_at s
  pub at_pool : m.pool.start ≡ pool_at s
  pub of_types : m.types.count ≡ types s
  pub of_constructors : m.constructors.count ≡ constructors s
  pub of_entries : m.entries.count ≡ entries s
  pub of_patterns : m.patterns.count ≡ patterns s
  pub of_children : m.children.count ≡ children s
  pub of_clauses : m.clauses.count ≡ clauses s
  pub of_pool : m.pool.count ≡ pool_size s
  pub of_subject : m.subject ≡ subject s

pub mapped : (s : List ℕ) (m : SheetMap) → m ≡ map_of s → Mapped s m
mapped s m e = record {
  at_types = ap (λ (x : SheetMap). x.types.start) e;
  at_constructors = ap (λ (x : SheetMap). x.constructors.start) e;
  at_entries = ap (λ (x : SheetMap). x.entries.start) e;
  at_patterns = ap (λ (x : SheetMap). x.patterns.start) e;
  at_children = ap (λ (x : SheetMap). x.children.start) e;
  at_clauses = ap (λ (x : SheetMap). x.clauses.start) e;
  at_pool = ap (λ (x : SheetMap). x.pool.start) e;
  of_types = ap (λ (x : SheetMap). x.types.count) e;
  of_constructors = ap (λ (x : SheetMap). x.constructors.count) e;
  of_entries = ap (λ (x : SheetMap). x.entries.count) e;
  of_patterns = ap (λ (x : SheetMap). x.patterns.count) e;
  of_children = ap (λ (x : SheetMap). x.children.count) e;
  of_clauses = ap (λ (x : SheetMap). x.clauses.count) e;
  of_pool = ap (λ (x : SheetMap). x.pool.count) e;
  of_subject = ap (λ (x : SheetMap). x.subject) e;
}
