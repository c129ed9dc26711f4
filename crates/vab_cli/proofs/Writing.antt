-- What a session and an installation write.
use Rattle.std.proofs.Common.{◌≡◌, ◌∙◌, inl, inr, ⊎_elim, ◌^◌, ℕ, List, take, drop}
use Rattle.std.proofs.Common.{Result, sym, ap, subst}
use Rattle.vab_disk.specs.declared.disk.Disk.{Ghosts}
use Rattle.vab_disk.specs.Disk.{Image}
use Rattle.vab_disk.specs.Calls.{Changes, IsAtRest}
use Rattle.vab_disk.specs.Disk.{Adds}
use Rattle.vab_disk.specs.Port.{LeavesSaying}
use Rattle.vab_disk.specs.Written.{same_image}
use Rattle.vab_disk.proofs.Moments.{adds_on, adds_wider}
use Rattle.vab_set.specs.declared.set.SetImage.{SetImage}
use Rattle.vab_device.specs.declared.device.Device.{Device}
use Rattle.vab_device.specs.Mounted.{mounted_on}
use Rattle.vab_device.specs.Reading.{Represents}
use Rattle.vab_session.specs.Served.{nothing_staged}
use Rattle.vab_session.specs.Written.{WrittenInTurn, WritesAs, WritesInTurn}
use Rattle.vab_update.specs.declared.stop.Stop.{Stop}
use Rattle.vab_update.specs.Install.{install_orders}
use Rattle.vab_update.specs.Orders.{Order}
use Rattle.vab_update.specs.Written.{OrdersWritten, WritesOrders}
use Rattle.vab_cli.specs.Written.{WritesInOrder, WritesInstall, WritesServed}

-- what is changed, where nothing was pending
pub changes_as : {D : Type 0} (g : Ghosts D) (W : ℕ → List ℕ → Type 0) (old new : D)
    → g.is_modelled
    → Changes g W old new
    → WritesAs g W old new
changes_as g W old new t changes = record {
  seen = changes.seen t;
  time = λ rest.
      adds_wider g.moment g.outcomes old new _ _ (changes.time t)
      (λ o each s.
      ⊎_elim (λ was. inl (rest s (o.image s) was)) (λ wrote. inr wrote) (each s));
}

pub writes_opened : {D : Type 0} (turns : ℕ) (g : Ghosts D) (W : ℕ → List ℕ → Type 0) (size : ℕ)
    (d : Device) (old mid new : D)
    → g.is_modelled
    → g.size mid ≡ size
    → g.input_left mid ≡ g.input_left old
    → Represents d size (g.seen mid)
    → Changes g W old mid
    → (IsAtRest g old → IsAtRest g mid)
    → WritesInTurn g turns (g.size mid) d
    (nothing_staged (mounted_on d (g.seen mid)))
    (drop 4 (take (2 ^ 44) (g.input_left mid))) mid new
    → WritesServed g W turns size (drop 4 (take (2 ^ 44) (g.input_left old))) old new
writes_opened turns g W size d old mid new t sized left represents opens rests wrote =
    let first = changes_as g W old mid t opens in
    let wide : (image : Image)
    → WrittenInTurn g.is_modelled turns (g.size mid) d
    (nothing_staged (mounted_on d (g.seen mid))) (g.seen mid) wrote.done wrote.more image
    → WrittenInTurn g.is_modelled turns size d
    (nothing_staged (mounted_on d (g.seen mid))) (g.seen mid) wrote.done wrote.more image =
    λ image w.
    subst
    (λ (n : ℕ).
    WrittenInTurn g.is_modelled turns n d
    (nothing_staged (mounted_on d (g.seen mid))) (g.seen mid) wrote.done wrote.more image)
    sized w in
    inl (record {
      device = d;
      opened = g.seen mid;
      opens = first.seen;
      represents = represents;
      done = wrote.done;
      more = wrote.more;
      after = wrote.after;
      are = wrote.are;
      is = ap (λ (l : List ℕ). drop 4 (take (2 ^ 44) l)) (sym left) ∙ wrote.is;
      seen = wide (g.seen new) wrote.seen;
      time = λ rest.
          adds_on g.moment g.outcomes old mid new _ _
          (adds_wider g.moment g.outcomes old mid _ _ (first.time rest) (λ o same. inl same))
          (wrote.time (rests rest))
          (λ o w. inr (wide o.image w));
    })

-- ---- an installation

module _ {D : Type 0} (g : Ghosts D) (d : Device) (orders : List Order) where
  -- nothing is told behind it
  pub orders_alone : (old new : D) (r : Result Device Stop)
      → WritesOrders g d orders old new r
      → WritesInOrder g d orders old new
  orders_alone old new r is = record { seen = is.seen; time = is.time }

  -- a line is told behind it
  pub orders_told : (old mid new : D) (text : List ℕ)
      → WritesInOrder g d orders old mid
      → (IsAtRest g old → IsAtRest g mid)
      → g.seen new ≡ g.seen mid
      → Adds g.moment g.outcomes mid new (LeavesSaying (g.told mid) text (g.may_leave mid))
      → WritesInOrder g d orders old new
  orders_told old mid new text first rests same time = record {
    seen = subst Written (sym same) first.seen;
    time = λ rest.
        adds_on g.moment g.outcomes old mid new _ _ (first.time rest) time
        (λ o leaves.
        subst Written
        (sym (same_image o.image (g.seen mid)
        (λ s. rests rest s (o.image s) (leaves.each_sector s))))
        first.seen);
  }
    where
      Written : Image → Type 0
      Written image = OrdersWritten g.is_modelled (g.size old) d (g.seen old) orders image

pub writes_installed : {D : Type 0} (g : Ghosts D) (W : ℕ → List ℕ → Type 0) (size : ℕ)
    (d : Device) (set : List SetImage) (old mid new : D)
    → g.is_modelled
    → g.size mid ≡ size
    → Represents d size (g.seen mid)
    → Changes g W old mid
    → (IsAtRest g old → IsAtRest g mid)
    → WritesInOrder g d (install_orders d.control.current set) mid new
    → WritesInstall g W size set old new
writes_installed g W size d set old mid new t sized represents opens rests wrote =
    let orders : List Order = install_orders d.control.current set in
    let first = changes_as g W old mid t opens in
    let wider : (image : Image)
    → OrdersWritten g.is_modelled (g.size mid) d (g.seen mid) orders image
    → OrdersWritten g.is_modelled size d (g.seen mid) orders image =
    λ image w.
    subst (λ (n : ℕ). OrdersWritten g.is_modelled n d (g.seen mid) orders image) sized w in
    inl (record {
      device = d;
      opened = g.seen mid;
      opens = first.seen;
      represents = represents;
      seen = wider (g.seen new) wrote.seen;
      time = λ rest.
          adds_on g.moment g.outcomes old mid new _ _
          (adds_wider g.moment g.outcomes old mid _ _ (first.time rest) (λ o same. inl same))
          (wrote.time (rests rest))
          (λ o w. inr (wider o.image w));
    })
