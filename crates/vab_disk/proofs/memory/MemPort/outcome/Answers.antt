use Rattle.std.proofs.Common.{◌≡◌, ◌++◌, ℕ, List, [], get_or, inl, inr, sym, ap, ◌∙◌, subst, arith}
use Rattle.std.proofs.Common.{cond}
use Rattle.std.proofs.lemmas.Bool.{cases_eq}
use Rattle.vab_disk.specs.Disk.{Image, Faults}
use Rattle.vab_disk.specs.Written.{set_here, set_there}
use Rattle.vab_disk.specs.Memory.{seen_of, settled_of, blended, takes_new, calls_of, earlier_of}
use Rattle.vab_disk.specs.Memory.{Holds}
use Rattle.vab_disk.specs.MemoryLaws.{blend_holds}
use Rattle.vab_disk.specs.declared.record.Call.{Call}
use Rattle.vab_disk.proofs.memory.MemPort.outcome.Goals as goal

pub loop-at-preserved : goal.loop-at-preserved
loop-at-preserved c =
    let m = c.args.self.now in
    let at = c.loop-at.at in
    let p = c.loop-at.port in
    let calls : List Call = calls_of m.begun m.calls.items ++ earlier_of m.begun m.calls.items in
    let seen : Image = seen_of m.count calls in
    let settled : Image = settled_of m.count calls in
    let old : Image =
    seen_of p.count (calls_of p.begun p.calls.items ++ earlier_of p.begun p.calls.items) in
    let bytes : List ℕ = c.blended_sector.result in
    let written = c.in-Ok.ensures.written tt in
    let is_settled : get_or c.deref.result.now at [] ≡ settled at =
    ap (λ (l : List (List ℕ)). get_or l at []) c.deref.ensures.value
    ∙ c.in_ok-settled.ensures.cells at c.loop-at-test.true in
    let is : bytes ≡ blended c.args.blend seen settled at =
    c.blended_sector.ensures
    ∙ (λ i. cond (takes_new c.args.blend at) (m.reads at i) (is_settled i)) in
    record {
      count = c.in-Ok.ensures.quiet.size ∙ c.loop-at.invariant.count;
      sectors = λ s below. ap (λ (image : Image). image s) written ∙ elim (cases_eq s at) [
        | inl here ↦
            set_here old at bytes s here ∙ is
            ∙ ap (blended c.args.blend seen settled) (sym here)
        | inr other ↦
            set_there old at bytes s other
            ∙ c.loop-at.invariant.sectors s (omega (arith, below, other))
      ];
      faults = ap (λ (f : Faults). f.disk) c.in-Ok.ensures.steady ∙ c.loop-at.invariant.faults;
      sources = ap (λ (f : Faults). f.source) c.in-Ok.ensures.steady ∙ c.loop-at.invariant.sources;
      sinks = ap (λ (f : Faults). f.sink) c.in-Ok.ensures.steady ∙ c.loop-at.invariant.sinks;
      starved = c.in-Ok.ensures.enough ∙ c.loop-at.invariant.starved;
    }

pub returns-clause-left_by : goal.returns-clause-left_by
returns-clause-left_by c = λ s below.
    let m = c.args.self.now in
    let p = c.loop-at.port in
    let calls : List Call = calls_of m.begun m.calls.items ++ earlier_of m.begun m.calls.items in
    let looped
    : seen_of p.count (calls_of p.begun p.calls.items ++ earlier_of p.begun p.calls.items) s
    ≡ blended c.args.blend (seen_of m.count calls) (settled_of m.count calls) s =
    c.loop-at.invariant.sectors s (omega (arith, below, c.loop-at-test.false)) in
    let same = c.next_run.ensures.seen ∙ c.in-Ok-sync.ensures.seen tt in
    let is = ap (λ (image : Image). image s) same ∙ looped in
    subst (Holds m.count calls s) (sym is) (blend_holds c.args.blend m.count calls s)
