use Rattle.vab_device.specs.declared.device.Part.{Part}
use Rattle.vab_status.proofs.OrderLaws.{put_last}
use Rattle.vab_status.proofs.order.by_name.Goals as goal

pub loop-i-preserved : goal.loop-i-preserved
loop-i-preserved c =
    put_last (λ (p : Part). p.name) c.args.parts.now c.loop-i.i c.place_of-place.result
    c.loop-i.sorted.items c.insert.new.self.items _ c.loop-i-test.true c.loop-i.auto.i
    c.index-parts-i.is c.loop-i.invariant
    (rw c.deref.ensures.value at c.place_of-place.ensures.place) c.in_ok-insert.ensures.items
