-- Runs held one by one, and passed one by one.
use Rattle.std.proofs.Common.{◌≡◌, ℕ, ◌+◌, ◌-◌, ◌*◌, ◌/◌, ◌≤◌, ◌<◌, List, [], ◌∷◌, ◌++◌, inl, inr}
use Rattle.std.proofs.Common.{length, take, drop, get_or, sym, ◌∙◌, ap, arith, add-one}
use Rattle.std.proofs.Common.{append_assoc, append-nil, length-append}
use Rattle.std.proofs.Math.ListN.{get_or-append}
use Rattle.std.proofs.Math.Seq.{take-suc, drop-cons, get_or-append_right}
use Rattle.std.proofs.lemmas.List.{drop_all}
use Rattle.std.proofs.lemmas.Bool.{cases_lt}
use Rattle.vab_linear.specs.declared.map.Run.{Run}
use Rattle.vab_linear.specs.Map.{run_of, blocks_of}
use Rattle.vab_linear.specs.Held.{held_of}
use Rattle.vab_linear.proofs.MapLaws.{length-run_of, run_of-at, blocks_of-append, blocks_of-one}

pub held_of-push : (runs : List Run) (r : Run)
    → held_of (runs ++ r ∷ []) ≡ held_of runs ++ run_of r.first r.blocks
unfolding held_of
held_of-push [] r = simp append-nil
held_of-push (x ∷ runs) r = ap (λ (l : List ℕ). run_of x.first x.blocks ++ l) (held_of-push runs r)
    ∙ sym (append_assoc (run_of x.first x.blocks) (held_of runs) (run_of r.first r.blocks))

-- one run more
pub blocks_of-more : (runs : List (ℕ × ℕ)) (i : ℕ) (d : ℕ × ℕ)
    → i < length runs
    → blocks_of (take (i + 1) runs) ≡ blocks_of (take i runs)
    ++ run_of (get_or runs i d).0 ((get_or runs i d).1 / 8)
blocks_of-more runs i d below =
    let more : take (i + 1) runs ≡ take i runs ++ (get_or runs i d ∷ []) =
    rw add-one (take-suc runs i d below) in
    ap blocks_of more ∙ blocks_of-append (take i runs) (get_or runs i d ∷ [])
    ∙ ap (λ (l : List ℕ). blocks_of (take i runs) ++ l) (blocks_of-one (get_or runs i d))

-- the next of the runs is held
pub held_more : (held : List Run) (r : Run) (runs : List (ℕ × ℕ)) (i : ℕ) (d : ℕ × ℕ)
    → i < length runs
    → held_of held ≡ blocks_of (take i runs)
    → r.first ≡ (get_or runs i d).0
    → r.blocks ≡ (get_or runs i d).1 / 8
    → held_of (held ++ r ∷ []) ≡ blocks_of (take (i + 1) runs)
held_more held r runs i d below same first blocks =
    held_of-push held r ∙ ap (λ (l : List ℕ). l ++ run_of r.first r.blocks) same
    ∙ ap (λ (k : ℕ). blocks_of (take i runs) ++ run_of k r.blocks) first
    ∙ ap (λ (k : ℕ). blocks_of (take i runs) ++ run_of (get_or runs i d).0 k) blocks
    ∙ sym (blocks_of-more runs i d below)

pub length-held_of-push : (held : List Run) (r : Run)
    → length (held_of (held ++ r ∷ [])) ≡ length (held_of held) + r.blocks
length-held_of-push held r = omega (
  arith,
  ap length (held_of-push held r),
  length-append
      (held_of held) (run_of r.first r.blocks),
  length-run_of r.first r.blocks,
)

-- where a block is left, a run is
pub run_left : (runs : List Run) (i left : ℕ)
    → left < length (held_of (drop i runs))
    → i < length runs
unfolding held_of
run_left runs i left some = elim (cases_lt i (length runs)) [
  | inr past ↦ let none : length (held_of (drop i runs)) ≡ 0 =
      ap (λ (l : List Run). length (held_of l)) (drop_all i runs past) in absurd (omega arith)
  | inl below ↦ below
]

held_of-drop : (runs : List Run) (i : ℕ) (d : Run)
    → i < length runs
    → held_of (drop i runs) ≡ run_of (get_or runs i d).first (get_or runs i d).blocks
    ++ held_of (drop (i + 1) runs)
unfolding held_of
held_of-drop runs i d below =
    let is : drop i runs ≡ get_or runs i d ∷ drop (i + 1) runs =
    rw add-one (drop-cons runs i d below) in
    ap held_of is

-- a block of this run
pub left_here : (runs : List Run) (i left : ℕ) (d : Run)
    → i < length runs
    → left < (get_or runs i d).blocks
    → get_or (held_of (drop i runs)) left 0 ≡ (get_or runs i d).first + 8 * left
left_here runs i left d below here =
    let r : Run = get_or runs i d in
    let long : length (run_of r.first r.blocks) ≡ r.blocks = length-run_of r.first r.blocks in
    ap (λ (l : List ℕ). get_or l left 0) (held_of-drop runs i d below)
    ∙ get_or-append (run_of r.first r.blocks) (held_of (drop (i + 1) runs)) 0 left (omega arith)
    ∙ run_of-at r.first r.blocks left here

-- a block of a later run
pub left_later : (runs : List Run) (i left : ℕ) (d : Run)
    → i < length runs
    → (get_or runs i d).blocks ≤ left
    → get_or (held_of (drop i runs)) left 0
    ≡ get_or (held_of (drop (i + 1) runs)) (left - (get_or runs i d).blocks) 0
left_later runs i left d below later =
    let r : Run = get_or runs i d in
    let long : length (run_of r.first r.blocks) ≡ r.blocks = length-run_of r.first r.blocks in
    ap (λ (l : List ℕ). get_or l left 0) (held_of-drop runs i d below)
    ∙ get_or-append_right (run_of r.first r.blocks) (held_of (drop (i + 1) runs)) left 0
    (omega arith) ∙ ap (λ (k : ℕ). get_or (held_of (drop (i + 1) runs)) (left - k) 0) long

pub length-left : (runs : List Run) (i : ℕ) (d : Run)
    → i < length runs
    → length (held_of (drop i runs)) ≡ (get_or runs i d).blocks + length
    (held_of (drop (i + 1) runs))
length-left runs i d below =
    let r : Run = get_or runs i d in
    omega (
      arith,
      ap length (held_of-drop runs i d below),
      length-append (run_of r.first r.blocks)
          (held_of (drop (i + 1) runs)),
      length-run_of r.first r.blocks,
    )
