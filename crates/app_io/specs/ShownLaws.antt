-- The programs' answers from those of the crates app_listing and build_call: a tree file that a sheet's build wrote is listed as the rules list the
-- sheet, and so is a refusal.
use Rattle.std.specs.Prelude.{◌≡◌, Bool, List, ◌++◌, ℕ, ◌-◌, ◌≤◌, leb, length, Option, Some, None, IfSome, Result, Ok, Err}
use Rattle.std.specs.Result.{result_unwrap_or}
use Rattle.std.proofs.Math.Path.{refl, sym, ap}
use Rattle.std.proofs.Common.{ap₂, ◌∙◌, arith, leb-true, length-take, length-append}
use Rattle.std.proofs.Math.Bool.{true, false}
use Rattle.std.proofs.Math.ListN.{take}
use Rattle.std.proofs.lemmas.List.{length-replicate}
use Rattle.io.specs.Counts.{IsPrefixLen}
use Rattle.base_words.specs.Words.{pick, zeros}
use Rattle.spec_rules.specs.Limits.{tree_room, work_room}
use Rattle.spec_rules.specs.RefusalNumbers.{tree_refusal}
use Rattle.spec_rules.specs.TreeReader.{tree_fits}
use Rattle.spec_rules.specs.Calls.{Answer, answers, refuses, Built, BuildCall, build_answer, build_call, sheet_tree_file}
use Rattle.spec_rules.specs.Listing.{listing, refused_line, printed, sheet_listing}
use Rattle.spec_theorems.specs.CallsLaws.{build_answers_only}
use Rattle.spec_theorems.specs.Theorems.{the_buffer_has_the_file}
use Rattle.spec_theorems.proofs.Theorems.{the_file_fits}
use Rattle.format_parts.specs.Refusals.{number_of}
use Rattle.format_parts.specs.declared.refusals.Refusal.{Refusal}
use Rattle.app_listing.specs.Answers.{text_in, end_in, ListingCall, call_of, listing_call, LineCall, line_of, shown, refused_line_call}
use Rattle.build_call.specs.declared.BuiltTree.{BuiltTree}
use Rattle.build_call.specs.Answers.{answer_of as build_answer_of}
use Rattle.dewmycel.specs.Promises.{BuildFits}
use Rattle.app_io.specs.Shown.{tree_shown, Shows}

-- ---- how many bytes there are
text_in_long : (text : List ℕ) (room : ℕ) → length (text_in text room) ≡ room
unfolding text_in
text_in_long text room = go (leb (length text) room) refl
  where
    go : (b : Bool) → leb (length text) room ≡ b → length (pick b (text ++ zeros (room - length text)) (zeros room)) ≡ room
    go true e = length-append text (zeros (room - length text)) ∙ omega (arith, leb-true (length text) room e, length-replicate {A = ℕ} (room - length text) 0)
    go false e = length-replicate {A = ℕ} room 0

end_inside : (text : List ℕ) (room : ℕ) (r : Option ℕ) (out : List ℕ) → r ≡ end_in text room → length out ≡ room → IfSome r (λ n. IsPrefixLen n out)
unfolding end_in
end_inside text room None out e long = tt
end_inside text room (Some n) out e long = go (leb (length text) room) refl
  where
    go : (b : Bool) → leb (length text) room ≡ b → IsPrefixLen n out
    go true f =
        let is : Some n ≡ Some (length text) = rw f at e in
        let same : n ≡ length text = cc in
        let h : n ≤ length out = omega (arith, leb-true (length text) room f) in
        (h, sym (length-take n out ∙ omega arith))
    go false f =
        let is : Some n ≡ None = rw f at e in
        cc

pub shows : (text : List ℕ) (room : ℕ) (r : Option ℕ) (out : List ℕ) → line_of r out ≡ shown text room → Shows (shown text room) r out
shows text room r out e = record {
  count = end_inside text room r out (ap (λ (x : LineCall). x.answer) e) (ap (λ (x : LineCall). length x.out) e ∙ text_in_long text room);
  is = e;
}

-- ---- the listing of a tree file
abbrev count_of : Answer (Option ℕ) → Option ℕ
count_of (answers end) = end
count_of (refuses number place) = None

module _ (t : List ℕ) (room : ℕ) where
  told : (r : Result (Option ℕ) Refusal) (out : List ℕ) → call_of r out ≡ listing_call t room → line_of (result_unwrap_or r None) out ≡ tree_shown t room
  unfolding listing_call
  told r out e = unwrapped r ∙ ap counting e ∙ listed (tree_fits t)
    where
      counting : ListingCall → LineCall
      counting x = line_of (count_of x.answer) x.out

      unwrapped : (r : Result (Option ℕ) Refusal) → line_of (result_unwrap_or r None) out ≡ counting (call_of r out)
      unwrapped (Ok end) = refl
      unwrapped (Err r) = refl

      listed : (b : Bool)
          → counting (pick b (record { answer = answers (end_in (listing t) room); out = text_in (listing t) room }) (record { answer = refuses tree_refusal 0; out = zeros room }))
          ≡ pick b (shown (listing t) room) (record { answer = None; out = zeros room })
      listed true = refl
      listed false = refl

  pub tree_shows : (r : Result (Option ℕ) Refusal) (out : List ℕ) → call_of r out ≡ listing_call t room → Shows (tree_shown t room) (result_unwrap_or r None) out
  tree_shows r out e = go (tree_fits t) (told r out e)
    where
      go : (b : Bool) → line_of (result_unwrap_or r None) out ≡ pick b (shown (listing t) room) (record { answer = None; out = zeros room })
          → Shows (pick b (shown (listing t) room) (record { answer = None; out = zeros room })) (result_unwrap_or r None) out
      go true d = shows (listing t) room (result_unwrap_or r None) out d
      go false d =
          let none : result_unwrap_or r None ≡ None = ap (λ (x : LineCall). x.answer) d in
          record { count = rw none tt; is = d }

-- ---- the listing of a sheet
-- built in buffers of n and m bytes, which are the least that a build takes
module _ (s : List ℕ) (n m : ℕ) (b : Result BuiltTree Refusal) (tree work : List ℕ) (is_built : BuildFits s n m b tree work) (tree_room_holds : tree_room ≡ n) (work_room_holds : work_room ≡ m) where
  fits : BuildFits s tree_room work_room b tree work
  fits = is_built ∙ sym (ap₂ (λ (x y : ℕ). build_call s x y) tree_room_holds work_room_holds)

  the_answer : build_answer_of b ≡ build_answer s tree_room work_room
  unfolding build_call
  the_answer = ap (λ (x : BuildCall). x.answer) fits

  module _ (room : ℕ) (r : Option ℕ) (out : List ℕ) where
    pub sheet_refused : (refusal : Refusal) → b ≡ Err refusal → line_of r out ≡ refused_line_call (number_of refusal.reason) refusal.place room
        → Shows (shown (sheet_listing s) room) r out
    unfolding sheet_listing printed
    sheet_refused refusal e h =
        let is : printed (build_answer s tree_room work_room) (sheet_tree_file s) ≡ refused_line (number_of refusal.reason) refusal.place
        = ap (λ a. printed a (sheet_tree_file s)) (sym the_answer ∙ ap build_answer_of e) in
        rw is (shows (refused_line (number_of refusal.reason) refusal.place) room r out h)

    pub sheet_listed : (built : BuiltTree) → b ≡ Ok built → Shows (tree_shown (take built.length tree) room) r out → Shows (shown (sheet_listing s) room) r out
    unfolding sheet_listing printed
    sheet_listed built e h =
        let x : Built = record { bytes = built.length; nodes = built.nodes; bindings = built.bindings } in
        let a : build_answer s tree_room work_room ≡ answers x = sym the_answer ∙ ap build_answer_of e in
        let file : take built.length tree ≡ sheet_tree_file s = ap (λ (y : BuildCall). take built.length y.tree) fits ∙ the_buffer_has_the_file s tree_room work_room x a in
        let read : tree_fits (sheet_tree_file s) ≡ true = the_file_fits s (build_answers_only s tree_room work_room x a).builds.sheet in
        let is : printed (build_answer s tree_room work_room) (sheet_tree_file s) ≡ listing (sheet_tree_file s) = ap (λ y. printed y (sheet_tree_file s)) a in
        let call : tree_shown (take built.length tree) room ≡ shown (sheet_listing s) room = ap (λ z. tree_shown z room) file ∙ rw (read, is) refl in
        record { count = h.count; is = h.is ∙ call }
