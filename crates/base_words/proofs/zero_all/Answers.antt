use Prim.Native.Nat.{ℕ, ◌+◌, ◌-◌, ◌*◌, ◌/◌, ◌≤◌}
use native.Mathlib.Omega.{arith}
use Rattle.std.proofs.Common.{List, length, ◌++◌}
use Rattle.std.proofs.Math.Path.{◌≡◌, sym, ap, ◌∙◌}
use lib.ListN.{length-replicate, length-take, length-drop, take, drop}
use lib.Seq.{drop-drop}
use mathlib.Core.List.{append_assoc}
use borrow.Rule.Slice.PartMut.{put_mid}
use Rattle.base_words.specs.Words.{zeros}
use Rattle.base_words.specs.Stored.{stored}
use Rattle.base_words.specs.StoredLaws.{length_stored, stored_nil, stored_is, zeros_next, zeros_whole}
use Rattle.base_words.proofs.zero_all.Goals as goal

-- zeros put in the place of as many bytes are stored there
put_stored : (b : List ℕ) (i n : ℕ) → i + n ≤ length b → put_mid i n b (zeros n) ≡ stored b i (zeros n)
put_stored b i n fits =
    let long : length (zeros n) ≡ n = length-replicate n 0 in
    let behind : drop (i + length (zeros n)) b ≡ drop n (drop i b) = ap (λ k. drop (i + k) b) long ∙ sym (drop-drop n i b) in
    sym (stored_is b i (zeros n) (omega (arith, long)) ∙ ap (λ ys. take i b ++ zeros n ++ ys) behind ∙ append_assoc (take i b) (zeros n) (drop n (drop i b)))

-- a part more, right behind the zeros
further : (l b r : List ℕ) (i n k : ℕ) → i + n ≤ length l → b ≡ stored l 0 (zeros i) → r ≡ zeros (length (take n (drop i b))) → i + n ≡ k → put_mid i n b r ≡ stored l 0 (zeros k)
further l b r i n k fits e f g =
    let whole : length b ≡ length l = ap length e ∙ length_stored l 0 (zeros i) in
    let long : length (take n (drop i b)) ≡ n = omega (arith, length-take n (drop i b), length-drop i b, whole) in
    ap (put_mid i n b) (f ∙ ap zeros long)
    ∙ put_stored b i n (omega (arith, whole))
    ∙ ap (λ x. stored x i (zeros n)) e
    ∙ zeros_next l 0 i i n (omega arith)
    ∙ ap (λ k. stored l 0 (zeros k)) g

pub loop-k-init : goal.loop-k-init
loop-k-init c = sym (stored_nil c.args.b.now 0)

pub loop-k-preserved : goal.loop-k-preserved
loop-k-preserved c =
    let l = c.loop-k in
    further c.args.b.now l.b c.zero_block.new.block (1024 * l.k) (1024 * (l.k + 1) - 1024 * l.k) (1024 * (l.k + 1)) (omega (arith, c.loop-k-test.true)) l.invariant c.zero_block.ensures (omega arith)

pub returns : goal.returns
returns c =
    let l = c.loop-k in
    let whole = c.args.b.now in
    let blocks = length whole / 1024 in
    let all : l.k ≡ blocks = omega (arith, c.loop-k-test.false, l.auto.k-end) in
    further whole l.b c.zero_block-2.new.block (1024 * blocks) (length l.b - 1024 * blocks) (length whole) (omega (arith, l.auto.b)) (l.invariant ∙ ap (λ k. stored whole 0 (zeros (1024 * k))) all) c.zero_block-2.ensures (omega (arith, l.auto.b))
    ∙ zeros_whole whole
