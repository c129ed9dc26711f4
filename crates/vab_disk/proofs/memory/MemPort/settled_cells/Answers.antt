use Rattle.std.proofs.Common.{◌≡◌, ◌<◌, ◌+◌, ◌++◌, ℕ, List, [], ◌∷◌, length, take, reverse, get_or}
use Rattle.std.proofs.Common.{sym, ap, ◌∙◌, subst, arith, add-one}
use Rattle.std.proofs.Math.Seq.{take-suc}
use Rattle.std.proofs.lemmas.List.{reverse-append}
use Rattle.vab_disk.specs.declared.record.Call.{Call}
use Rattle.vab_disk.specs.Memory.{seen_of, settled_of}
use Rattle.vab_disk.proofs.Kept.{all_calls}
use Rattle.vab_disk.proofs.memory.MemPort.settled_cells.Goals as goal

one_more : (calls : List Call) (i : ℕ) (d : Call) → i < length calls
    → reverse (take (i + 1) calls) ≡ get_or calls i d ∷ reverse (take i calls)
one_more calls i d below =
    let more : take (i + 1) calls ≡ take i calls ++ (get_or calls i d ∷ []) =
    rw add-one (take-suc calls i d below) in
    ap (λ (l : List Call). reverse l) more
    ∙ reverse-append (take i calls) (get_or calls i d ∷ [])

pub loop-i-preserved : goal.loop-i-preserved
loop-i-preserved c =
    let m = c.args.self.now in
    let i = c.loop-i.i in
    let call : Call = c.index.result.now in
    let older : List Call = reverse (take i m.calls.items) in
    let old : List (List ℕ) = c.loop-i.cells.items in
    let new : List (List ℕ) = c.replay.new.cells.items in
    let is_long : length old ≡ m.count = c.loop-i.invariant.long in
    let inside : i < length m.calls.items =
    omega (
      arith,
      c.loop-i-test.true,
      c.before_sync-i-end.ensures.within,
      ap length c.deref.ensures.value,
    ) in
    let more : reverse (take (i + 1) m.calls.items) ≡ call ∷ older =
    one_more m.calls.items i call inside
    ∙ ap (λ (x : Call). x ∷ older) (sym c.index.ensures) in
    let kept : (s : ℕ) → s < length old → get_or old s [] ≡ seen_of (length old) older s =
    λ s below. c.loop-i.invariant.cells s (omega (arith, below, is_long))
    ∙ ap (λ (n : ℕ). seen_of n older s) (sym is_long) in
    record {
      long = c.replay.ensures.long ∙ is_long;
      cells = λ s below.
          c.replay.ensures.cells older kept s (omega (arith, below, is_long))
          ∙ ap (λ (n : ℕ). seen_of n (call ∷ older) s) is_long
          ∙ ap (λ (l : List Call). seen_of m.count l s) (sym more);
    }

pub returns-clause-cells : goal.returns-clause-cells
returns-clause-cells c = λ s below.
    let m = c.args.self.now in
    let k = c.before_sync-i-end.result in
    let all : c.loop-i.i ≡ k = omega (arith, c.loop-i-test.false, c.loop-i.auto.i-end) in
    let whole : settled_of m.count (reverse m.calls.items)
    ≡ seen_of m.count (reverse (take k m.calls.items)) =
    subst (λ (l : List Call). settled_of m.count (reverse l) ≡ seen_of m.count (reverse (take k l)))
    c.deref.ensures.value (c.before_sync-i-end.ensures.settled m.count) in
    c.loop-i.invariant.cells s below
    ∙ ap (λ (n : ℕ). seen_of m.count (reverse (take n m.calls.items)) s) all
    ∙ sym (λ j. whole j s)
    ∙ ap (λ (l : List Call). settled_of m.count l s) (sym (all_calls m.begun m.calls.items))
