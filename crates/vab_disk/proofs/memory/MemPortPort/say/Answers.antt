use Rattle.std.proofs.Common.{◌≡◌, ◌∷◌, ◌++◌, List, ℕ, length, take, inl, inr, ⊎_elim, sym, ◌∙◌, ap}
use Rattle.std.proofs.Common.{arith, rules}
use Rattle.std.proofs.lemmas.List.{take_all, take_at}
use Rattle.vab_disk.specs.Memory.{calls_of, earlier_of, seen_of, told_of, taken_of}
use Rattle.vab_disk.specs.declared.record.Call.{Call}
use Rattle.vab_disk.specs.declared.record.Call.TheVariants.{Said}
use Rattle.vab_disk.proofs.Kept.{longer, kept, or_now}
use Rattle.vab_disk.proofs.memory.MemPortPort.say.Goals as goal

pub returns-clause-time : goal.returns-clause-time
returns-clause-time c = λ _.
    let rev : calls_of c.args.self.now.begun c.record.new.calls.items
    ≡ Said c.in-Ok.piece ∷ calls_of c.args.self.now.begun c.args.self.now.calls.items =
    search rules in
    let is : c.in-Ok.piece.items ≡ c.args.from.now = search rules in
    let all : c.args.from.now ≡ take (length c.args.from.now) c.args.from.now =
    sym (take_all (length c.args.from.now) c.args.from.now (omega arith)) in
    let before : earlier_of c.args.self.now.begun c.record.new.calls.items
    ≡ earlier_of c.args.self.now.begun c.args.self.now.calls.items = search rules in
    record {
      later = longer c.args.self.now.count
          (earlier_of c.args.self.now.begun c.args.self.now.calls.items)
          (earlier_of c.args.self.now.begun c.record.new.calls.items)
          (calls_of c.args.self.now.begun c.args.self.now.calls.items)
          (calls_of c.args.self.now.begun c.record.new.calls.items) _ before rev;
      keeps = kept c.args.self.now.count
          (earlier_of c.args.self.now.begun c.args.self.now.calls.items)
          (earlier_of c.args.self.now.begun c.record.new.calls.items)
          (calls_of c.args.self.now.begun c.args.self.now.calls.items)
          (calls_of c.args.self.now.begun c.record.new.calls.items) _ before rev;
      adds = λ t o le left. ⊎_elim (λ was. inl was) (λ now. inr (record {
        front = (
          length c.args.from.now,
          now.told_so_far
              ∙ ap (λ (l : List ℕ). told_of
              (calls_of c.args.self.now.begun c.args.self.now.calls.items) ++ l) (is ∙ all),
        );
        each_sector = now.each_sector;
      })) (or_now c.args.self.now.count (earlier_of c.args.self.now.begun
          c.args.self.now.calls.items) (earlier_of c.args.self.now.begun c.record.new.calls.items)
          (calls_of c.args.self.now.begun c.args.self.now.calls.items)
          (calls_of c.args.self.now.begun c.record.new.calls.items) _ before rev t o left);
    }

pub returns-clause-failed : goal.returns-clause-failed
returns-clause-failed c = λ _.
    let rev : calls_of c.args.self.now.begun c.record.new.calls.items
    ≡ Said c.in-Ok.piece ∷ calls_of c.args.self.now.begun c.args.self.now.calls.items =
    search rules in
    let is : c.in-Ok.piece.items ≡ c.args.from.now = search rules in
    let all : c.args.from.now ≡ take (length c.args.from.now) c.args.from.now =
    sym (take_all (length c.args.from.now) c.args.from.now (omega arith)) in (
      length c.args.from.now,
      ap told_of rev
          ∙ ap (λ (l : List ℕ). told_of (calls_of c.args.self.now.begun c.args.self.now.calls.items)
          ++ l) (is ∙ all),
    )

-- where the call can't be kept, what it told is cut off again
pub invariant_of-self-then-is_err-2-clause-tells : goal.invariant_of-self-then-is_err-2-clause-tells
invariant_of-self-then-is_err-2-clause-tells c =
    let same : c.record.new.calls.items ≡ c.args.self.now.calls.items = search rules in
    let long : length c.args.self.now.told.items ≡ c.len-was.result = search rules in
    let more : c.extend_from_slice.new.self.items ≡ c.args.self.now.told.items ++ c.args.from.now =
    search rules in
    let cut : c.truncate.new.self.items ≡ c.args.self.now.told.items =
    c.truncate.ensures.items ∙ ap (λ (l : List ℕ). take c.len-was.result l) more
    ∙ take_at c.args.self.now.told.items c.args.from.now c.len-was.result long in
    cut ∙ c.args.self.now.tells ∙ ap (λ (l : List Call). told_of (calls_of c.args.self.now.begun l))
    (sym same)

pub invariant_of-self-then-is_err-2-clause-reads : goal.invariant_of-self-then-is_err-2-clause-reads
invariant_of-self-then-is_err-2-clause-reads c = λ s.
    let same : c.record.new.calls.items ≡ c.args.self.now.calls.items = search rules in
    c.args.self.now.reads s ∙ ap (λ (l : List Call).
    seen_of c.args.self.now.count (calls_of c.args.self.now.begun l
    ++ earlier_of c.args.self.now.begun l) s) (sym same)

pub invariant_of-self-then-is_err-2-clause-taken : goal.invariant_of-self-then-is_err-2-clause-taken
invariant_of-self-then-is_err-2-clause-taken c =
    let same : c.record.new.calls.items ≡ c.args.self.now.calls.items = search rules in
    c.args.self.now.taken
    ∙ ap (λ (l : List Call). taken_of (calls_of c.args.self.now.begun l)) (sym same)
