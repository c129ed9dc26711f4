use Rattle.std.proofs.Common.{◌≡◌, ◌∙◌, ◌+◌, ◌/◌, ◌++◌, ◌∷◌, [], ℕ, List, Result, Ok, Err, map}
use Rattle.std.proofs.Common.{replicate}
use Rattle.std.proofs.Common.{ap}
use Rattle.std.specs.Prelude.{IfOk}
use Rattle.std.proofs.lemmas.Result.{err_from_is_err_and}
use Rattle.vab_set.specs.declared.set.SetImage.{SetImage}
use Rattle.vab_device.specs.Mounted.{Mounted, mounted_on}
use Rattle.vab_device.proofs.ReadingLaws.{device_stands}
use Rattle.vab_model.specs.Commands.{Merge}
use Rattle.vab_disk.specs.declared.disk.Disk.{Ghosts}
use Rattle.vab_device.specs.declared.device.Device.{Device}
use Rattle.vab_update.specs.Install.{install_orders, order}
use Rattle.vab_update.specs.Orders.{Order}
use Rattle.vab_update.specs.Written.{OrdersDone}
use Rattle.vab_cli.specs.declared.status.Status.{Status}
use Rattle.vab_cli.specs.Acts.{Act, DoesActs, PerformsActs, command_act, course, install_act}
use Rattle.vab_cli.specs.Demo.{digest_act, digest_order, take_over, take_over_orders}
use Rattle.vab_cli.specs.Demo.{update_acts, update_orders}
use Rattle.vab_cli.specs.Installing.{left_behind}
use Rattle.vab_cli.specs.Written.{WritesInOrder}
use Rattle.vab_cli.proofs.ActsWritten.{does_as, does_more, does_short}
use Rattle.vab_cli.proofs.Courses.{kept_next, represents_next}
use Rattle.vab_cli.proofs.demo.update.Goals as goal

abbrev merges : ℕ → List Act
merges times = replicate times (command_act [] (Merge 7))

abbrev digests : List SetImage → List Act
digests set = map digest_act set

-- the acts behind the installation
abbrev others : ℕ → List SetImage → List Act
others times set = take_over ++ merges times ++ digests set

-- and their commands
abbrev merge_orders : ℕ → List Order
merge_orders times = replicate times (order (Merge 7))

abbrev digest_orders : List SetImage → List Order
digest_orders set = map digest_order set

abbrev other_orders : ℕ → List SetImage → List Order
other_orders times set = take_over_orders ++ merge_orders times ++ digest_orders set

module _ {D : Type 0} (g : Ghosts D) (d : Device) (set : List SetImage) where
  abbrev installs : List Order
  installs = install_orders d.control.current set

  -- the set is installed
  installed : (old new : D) (r : Result Device Status)
      → PerformsActs g d (install_act set ∷ []) old new r
      → (g.is_modelled → WritesInOrder g d installs old new)
      → (g.is_modelled
      → IfOk r
      (λ last. OrdersDone g.is_modelled (g.size old) d (g.seen old) installs last (g.seen new)))
      → DoesActs g d (install_act set ∷ []) installs old new r
  installed old new r performs writes done = record {
    performs = performs;
    writes = λ t. record { all = writes t; done = done t };
  }

pub returns-in_err-next : goal.returns-in_err-next
returns-in_err-next g c =
    let p = err_from_is_err_and c.from_residual.result c.from_residual.ensures.1 in
    let d = c.args.device in
    let set : List SetImage = c.args.set.now in
    let m : Mounted = mounted_on d (g.P.Disk.seen c.args.port.now) in
    let times : ℕ = left_behind m set / 7 + 1 in
    let e = c.in_err-next.field-0.0 in
    let done = c.in_err-next.ensures in
    rw (p.1, p.2)
    (does_short g.P.Disk d (install_act set ∷ []) (others times set)
    (install_orders d.control.current set) (other_orders times set) c.args.port.now
    c.install_set.new.port e
    (installed g.P.Disk d set c.args.port.now c.install_set.new.port (Err e) done.performs
    done.writes done.done))

pub left-blocks-requires : goal.left-blocks-requires
left-blocks-requires g c = (
  g.P.Disk.size c.install_set.new.port,
  kept_next g.P.Disk c.args.device c.in_ok-next.next _ c.args.port.now c.install_set.new.port
      c.in_ok-next.ensures.performs,
)

pub take_over-requires-clause-kept : goal.take_over-requires-clause-kept
take_over-requires-clause-kept g c =
    kept_next g.P.Disk c.args.device c.in_ok-next.next _ c.args.port.now c.install_set.new.port
    c.in_ok-next.ensures.performs

pub take_over-requires-clause-represents : goal.take_over-requires-clause-represents
take_over-requires-clause-represents g c =
    represents_next g.P.Disk c.args.device c.in_ok-next.next _ c.args.port.now
    c.install_set.new.port c.in_ok-next.ensures.performs

-- what is done, with as many merges as there are blocks left
module _ {D : Type 0} (g : Ghosts D) (d next : Device) (set : List SetImage) (left : ℕ)
    (old mid new : D) (r : Result Device Status)
    (blocks : g.is_modelled → left ≡ left_behind (mounted_on d (g.seen old)) set) where
  as_left : DoesActs g d ((install_act set ∷ []) ++ others (left / 7 + 1) set)
      (install_orders d.control.current set ++ other_orders (left / 7 + 1) set) old new r
      → DoesActs g d (update_acts set (left_behind (mounted_on d (g.seen old)) set))
      (update_orders d.control.current set (left_behind (mounted_on d (g.seen old)) set)) old new r
  as_left is =
      does_as g d _ _ _ _ old new r
      (λ t.
      ap
      (λ (n : ℕ).
      course ((install_act set ∷ []) ++ others (n / 7 + 1) set) (mounted_on d (g.seen old)))
      (blocks t))
      (λ t.
      ap
      (λ (n : ℕ). install_orders d.control.current set ++ other_orders (n / 7 + 1) set)
      (blocks t))
      is

pub returns-in_err-next-2 : goal.returns-in_err-next-2
returns-in_err-next-2 g c =
    let p = err_from_is_err_and c.from_residual-in_err-next-2.result
    c.from_residual-in_err-next-2.ensures.1 in
    let d = c.args.device in
    let next = c.in_ok-next.next in
    let old = c.args.port.now in
    let set : List SetImage = c.args.set.now in
    let mid = c.install_set.new.port in
    let new = c.take_over.new.port in
    let left : ℕ = c.left-blocks.result in
    let times : ℕ = left / 7 + 1 in
    let e = c.in_err-next-2.field-0.0 in
    let done = c.in_ok-next.ensures in
    rw (p.1, p.2)
    (as_left g.P.Disk d next set left old mid new (Err e)
    (λ t.
    c.left-blocks.ensures.is
    ∙ done.left t (mounted_on d (g.P.Disk.seen old))
    (device_stands d (g.P.Disk.size old) (g.P.Disk.seen old) (c.requires.represents t)))
    (does_more g.P.Disk d next (install_act set ∷ []) (others times set)
    (install_orders d.control.current set) (other_orders times set) old mid
    c.requires.represents
    (installed g.P.Disk d set old mid (Ok next) done.performs done.writes done.done)
    new (Err e)
    (does_short g.P.Disk next take_over (merges times ++ digests set) take_over_orders
    (merge_orders times ++ digest_orders set) mid new e c.in_err-next-2.ensures)))

pub merge_by_sevens-requires-clause-kept : goal.merge_by_sevens-requires-clause-kept
merge_by_sevens-requires-clause-kept g c =
    kept_next g.P.Disk c.in_ok-next.next c.in_ok-next-2.next _ c.install_set.new.port
    c.take_over.new.port c.in_ok-next-2.ensures.performs

pub merge_by_sevens-requires-clause-represents : goal.merge_by_sevens-requires-clause-represents
merge_by_sevens-requires-clause-represents g c =
    represents_next g.P.Disk c.in_ok-next.next c.in_ok-next-2.next _ c.install_set.new.port
    c.take_over.new.port c.in_ok-next-2.ensures.performs

pub returns-in_err-next-3 : goal.returns-in_err-next-3
returns-in_err-next-3 g c =
    let p = err_from_is_err_and c.from_residual-in_err-next-3.result
    c.from_residual-in_err-next-3.ensures.1 in
    let d = c.args.device in
    let next = c.in_ok-next.next in
    let booted = c.in_ok-next-2.next in
    let old = c.args.port.now in
    let set : List SetImage = c.args.set.now in
    let mid = c.install_set.new.port in
    let then = c.take_over.new.port in
    let new = c.merge_by_sevens.new.port in
    let left : ℕ = c.left-blocks.result in
    let times : ℕ = left / 7 + 1 in
    let e = c.in_err-next-3.field-0.0 in
    let done = c.in_ok-next.ensures in
    rw (p.1, p.2)
    (as_left g.P.Disk d next set left old mid new (Err e)
    (λ t.
    c.left-blocks.ensures.is
    ∙ done.left t (mounted_on d (g.P.Disk.seen old))
    (device_stands d (g.P.Disk.size old) (g.P.Disk.seen old) (c.requires.represents t)))
    (does_more g.P.Disk d next (install_act set ∷ []) (others times set)
    (install_orders d.control.current set) (other_orders times set) old mid
    c.requires.represents
    (installed g.P.Disk d set old mid (Ok next) done.performs done.writes done.done)
    new (Err e)
    (does_more g.P.Disk next booted take_over (merges times ++ digests set) take_over_orders
    (merge_orders times ++ digest_orders set) mid then
    (represents_next g.P.Disk d next _ old mid done.performs)
    c.in_ok-next-2.ensures new (Err e)
    (does_short g.P.Disk booted (merges times) (digests set) (merge_orders times)
    (digest_orders set) then new e c.in_err-next-3.ensures))))

pub tell_digests-requires-clause-kept : goal.tell_digests-requires-clause-kept
tell_digests-requires-clause-kept g c =
    kept_next g.P.Disk c.in_ok-next-2.next c.in_ok-next-3.next _ c.take_over.new.port
    c.merge_by_sevens.new.port c.in_ok-next-3.ensures.performs

pub tell_digests-requires-clause-represents : goal.tell_digests-requires-clause-represents
tell_digests-requires-clause-represents g c =
    represents_next g.P.Disk c.in_ok-next-2.next c.in_ok-next-3.next _ c.take_over.new.port
    c.merge_by_sevens.new.port c.in_ok-next-3.ensures.performs

pub returns : goal.returns
returns g c =
    let d = c.args.device in
    let next = c.in_ok-next.next in
    let booted = c.in_ok-next-2.next in
    let merged = c.in_ok-next-3.next in
    let old = c.args.port.now in
    let set : List SetImage = c.args.set.now in
    let mid = c.install_set.new.port in
    let then = c.take_over.new.port in
    let last = c.merge_by_sevens.new.port in
    let new = c.tell_digests.new.port in
    let left : ℕ = c.left-blocks.result in
    let times : ℕ = left / 7 + 1 in
    let r = c.tell_digests.result in
    let done = c.in_ok-next.ensures in
    as_left g.P.Disk d next set left old mid new r
    (λ t.
    c.left-blocks.ensures.is
    ∙ done.left t (mounted_on d (g.P.Disk.seen old))
    (device_stands d (g.P.Disk.size old) (g.P.Disk.seen old) (c.requires.represents t)))
    (does_more g.P.Disk d next (install_act set ∷ []) (others times set)
    (install_orders d.control.current set) (other_orders times set) old mid
    c.requires.represents
    (installed g.P.Disk d set old mid (Ok next) done.performs done.writes done.done)
    new r
    (does_more g.P.Disk next booted take_over (merges times ++ digests set) take_over_orders
    (merge_orders times ++ digest_orders set) mid then
    (represents_next g.P.Disk d next _ old mid done.performs)
    c.in_ok-next-2.ensures new r
    (does_more g.P.Disk booted merged (merges times) (digests set) (merge_orders times)
    (digest_orders set) then last
    (represents_next g.P.Disk next booted _ mid then c.in_ok-next-2.ensures.performs)
    c.in_ok-next-3.ensures new r c.tell_digests.ensures)))
