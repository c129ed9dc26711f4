use Rattle.std.proofs.Common.{◌≡◌, ◌≢◌, ◌∙◌, [], ◌∷◌, ◌++◌, List, ℕ, Ok, Err, refl, sym, ap}
use Rattle.std.proofs.Common.{subst, rules}
use Rattle.vab_disk.proofs.CallLaws.{changes_then, changes_telling}
use Rattle.vab_model.specs.declared.command.Refusal.{Refusal}
use Rattle.vab_model.specs.declared.command.Refusal.TheVariants.{NoMemory}
use Rattle.vab_device.specs.Mounted.{Mounted, mounted_on}
use Rattle.vab_device.proofs.ReadingLaws.{device_stands}
use Rattle.vab_update.specs.declared.stop.Stop.{Stop}
use Rattle.vab_update.specs.declared.stop.Stop.TheVariants as stops
use Rattle.vab_cli.specs.declared.status.Status.{Status}
use Rattle.vab_cli.specs.declared.status.Status.TheVariants.{Done, Refused, Port}
use Rattle.vab_cli.specs.Acts.{PerformsActs, install_act}
use Rattle.vab_cli.specs.Installing.{install_told, installed_line}
use Rattle.vab_cli.specs.Telling.{Says}
use Rattle.vab_cli.specs.Verbs.{refused_line}
use Rattle.vab_cli.proofs.InstallActs.{Carried, install_closed, install_done, install_done_broken}
use Rattle.vab_cli.proofs.InstallActs.{install_failed, install_refused_broken, install_wanted}
use Rattle.vab_cli.proofs.Installs.{done_told, left_is, refused_told}
use Rattle.vab_cli.proofs.Items.{says_err, says_ok}
use Rattle.vab_cli.proofs.Installs.{refused_reply}
use Rattle.std.proofs.Common.{Result}
use Rattle.vab_disk.specs.declared.disk.Disk.{Ghosts}
use Rattle.vab_disk.specs.Calls.{IsAtRest}
use Rattle.vab_set.specs.declared.set.SetImage.{SetImage}
use Rattle.vab_device.specs.declared.device.Device.{Device}
use Rattle.vab_update.specs.Install.{install_orders}
use Rattle.vab_update.specs.Written.{CarriesOrders, OrdersDone}
use Rattle.vab_disk.specs.Disk.{Image}
use Rattle.vab_cli.specs.Written.{WritesInOrder}
use Rattle.vab_cli.proofs.Writing.{orders_alone, orders_told}
use Rattle.vab_cli.proofs.installing.install_set.Goals as goal

pub returns-in-Ok-say_line-clause-performs : goal.returns-in-Ok-say_line-clause-performs
returns-in-Ok-say_line-clause-performs g c =
    let old = c.args.port.now in
    let mid = c.install.new.d in
    let new = c.say_line.new.port in
    let size = g.P.Disk.size old in
    let d = c.args.device in
    let set = c.args.set.now in
    let m : Mounted = mounted_on d (g.P.Disk.seen old) in
    let is : g.P.Disk.is_modelled → c.as_slice.result.now ≡ install_told m set = λ t.
    c.as_slice.ensures.value
    ∙ c.installed_line.ensures
    ∙ (λ i. installed_line (c.len.ensures i) (c.left.ensures.is i))
    ∙ done_told g.P.Disk t size d set old mid refl m (c.requires.represents t)
    (device_stands d size (g.P.Disk.seen old) (c.requires.represents t))
    c.in-Ok.device c.in-Ok.ensures.carries in
    install_done g.P.Disk d set old mid c.requires.kept c.requires.represents new
    c.say_line.ensures.size c.in-Ok.device c.in-Ok.ensures.carries
    (λ t.
    subst
    (λ (l : List ℕ). Says g.P.Disk {A = Status} {E = Status} l mid new (Ok Done)) (is t)
    (says_ok g.P.Disk _ mid new _ Done (c.in-Ok-say_line.ensures.says t)))
    c.in-Ok-say_line.ensures.steady
    (λ t. (let says = c.in-Ok-say_line.ensures.says t in says.seen))

pub returns-in-Ok-say_line-clause-changes : goal.returns-in-Ok-say_line-clause-changes
returns-in-Ok-say_line-clause-changes g c = λ t.
    let says = c.say_line.ensures.says t in
    changes_then g.P.Disk _ c.args.port.now c.install.new.d c.say_line.new.port
    (c.install.ensures.carries.changes t)
    (changes_telling g.P.Disk _ _ c.install.new.d c.say_line.new.port c.say_line.ensures.size
    (λ t. says.seen) (λ t. says.crash) (λ t. says.time))

pub returns-in-Ok-say_line-clause-left : goal.returns-in-Ok-say_line-clause-left
returns-in-Ok-say_line-clause-left g c = λ t s stands.
    left_is g.P.Disk t (g.P.Disk.size c.args.port.now) c.args.device c.args.set.now
    c.args.port.now c.install.new.d refl s (c.requires.represents t) stands c.in-Ok.device
    c.in-Ok.ensures.carries

pub returns-in-Err-clause-performs : goal.returns-in-Err-clause-performs
returns-in-Err-clause-performs g c =
    let old = c.args.port.now in
    let mid = c.install.new.d in
    let new = c.say_line.new.port in
    let size = g.P.Disk.size old in
    let d = c.args.device in
    let set = c.args.set.now in
    let m : Mounted = mounted_on d (g.P.Disk.seen old) in
    let is : g.P.Disk.is_modelled → c.as_slice.result.now ≡ install_told m set = λ t.
    c.as_slice.ensures.value
    ∙ c.installed_line.ensures
    ∙ (λ i. installed_line (c.len.ensures i) (c.left.ensures.is i))
    ∙ done_told g.P.Disk t size d set old mid refl m (c.requires.represents t)
    (device_stands d size (g.P.Disk.seen old) (c.requires.represents t))
    c.in-Ok.device c.in-Ok.ensures.carries in
    subst
    (λ (s : Status). PerformsActs g.P.Disk d (install_act set ∷ []) old new (Err s))
    (sym c.in-Err.ensures.failed)
    (install_done_broken g.P.Disk d set old mid c.requires.kept c.requires.represents new
    c.say_line.ensures.size c.in-Ok.device c.in-Ok.ensures.carries
    (λ t.
    subst
    (λ (l : List ℕ). Says g.P.Disk {A = Status} {E = Status} l mid new (Err Port)) (is t)
    (says_err g.P.Disk _ mid new _ Port (c.in-Err.ensures.says t)))
    c.in-Err.ensures.port)

pub returns-in-Err-clause-changes : goal.returns-in-Err-clause-changes
returns-in-Err-clause-changes g c = λ t.
    let says = c.say_line.ensures.says t in
    changes_then g.P.Disk _ c.args.port.now c.install.new.d c.say_line.new.port
    (c.install.ensures.carries.changes t)
    (changes_telling g.P.Disk _ _ c.install.new.d c.say_line.new.port c.say_line.ensures.size
    (λ t. says.seen) (λ t. says.crash) (λ t. says.time))

pub returns-in-Err-Disk-clause-performs : goal.returns-in-Err-Disk-clause-performs
returns-in-Err-Disk-clause-performs g c =
    install_failed g.P.Disk c.args.device c.args.set.now c.args.port.now c.install.new.d
    c.requires.kept c.requires.represents _
    (subst
    (λ (x : Stop).
    Carried g.P.Disk c.args.device c.args.set.now c.args.port.now c.install.new.d
    c.requires.kept c.requires.represents (Err x))
    c.in-Err-Disk.field-0-is c.in-Err-Disk.ensures.carries)

pub returns-then-eq-clause-performs : goal.returns-then-eq-clause-performs
returns-then-eq-clause-performs g c =
    let want : c.in-Err-Refused.refusal ≡ NoMemory = search rules in
    install_wanted g.P.Disk c.args.device c.args.set.now c.args.port.now c.install.new.d
    c.requires.kept c.requires.represents
    (subst
    (λ (x : Stop).
    Carried g.P.Disk c.args.device c.args.set.now c.args.port.now c.install.new.d
    c.requires.kept c.requires.represents (Err x))
    (c.in-Err-Refused.field-0-is ∙ ap stops.Refused want) c.in-Err-Refused.ensures.carries)

pub returns-in-Ok-say_line-2-clause-performs : goal.returns-in-Ok-say_line-2-clause-performs
returns-in-Ok-say_line-2-clause-performs g c =
    let old = c.args.port.now in
    let mid = c.install.new.d in
    let new = c.say_line-2.new.port in
    let size = g.P.Disk.size old in
    let d = c.args.device in
    let set = c.args.set.now in
    let m : Mounted = mounted_on d (g.P.Disk.seen old) in
    let refusal : Refusal = c.in-Err-Refused.refusal in
    let other : c.in-Err-Refused.refusal ≢ NoMemory = search rules in
    let none : c.new-line.result.items ≡ [] = search rules in
    let carries = subst
    (λ (x : Stop).
    Carried g.P.Disk d set old mid c.requires.kept c.requires.represents (Err x))
    c.in-Err-Refused.field-0-is c.in-Err-Refused.ensures.carries in
    let is : g.P.Disk.is_modelled → c.as_slice-2.result.now ≡ install_told m set = λ t.
    c.as_slice-2.ensures.value
    ∙ c.refused_line.ensures
    ∙ ap (λ (l : List ℕ). l ++ refused_line refusal) none
    ∙ refused_told g.P.Disk t size d set old mid refl m (c.requires.represents t)
    (device_stands d size (g.P.Disk.seen old) (c.requires.represents t)) refusal other carries in
    install_closed g.P.Disk d set old mid c.requires.kept c.requires.represents new
    c.say_line-2.ensures.size refusal other carries
    (λ t.
    subst
    (λ (l : List ℕ). Says g.P.Disk {A = Status} {E = Status} l mid new (Ok Refused)) (is t)
    (says_ok g.P.Disk _ mid new _ Refused (c.in-Ok-say_line-2.ensures.says t)))
    c.in-Ok-say_line-2.ensures.steady

pub returns-in-Ok-say_line-2-clause-changes : goal.returns-in-Ok-say_line-2-clause-changes
returns-in-Ok-say_line-2-clause-changes g c = λ t.
    let says = c.say_line-2.ensures.says t in
    changes_then g.P.Disk _ c.args.port.now c.install.new.d c.say_line-2.new.port
    (c.install.ensures.carries.changes t)
    (changes_telling g.P.Disk _ _ c.install.new.d c.say_line-2.new.port c.say_line-2.ensures.size
    (λ t. says.seen) (λ t. says.crash) (λ t. says.time))

pub returns-in-Err-say_line-clause-performs : goal.returns-in-Err-say_line-clause-performs
returns-in-Err-say_line-clause-performs g c =
    let old = c.args.port.now in
    let mid = c.install.new.d in
    let new = c.say_line-2.new.port in
    let size = g.P.Disk.size old in
    let d = c.args.device in
    let set = c.args.set.now in
    let m : Mounted = mounted_on d (g.P.Disk.seen old) in
    let refusal : Refusal = c.in-Err-Refused.refusal in
    let other : c.in-Err-Refused.refusal ≢ NoMemory = search rules in
    let none : c.new-line.result.items ≡ [] = search rules in
    let carries = subst
    (λ (x : Stop).
    Carried g.P.Disk d set old mid c.requires.kept c.requires.represents (Err x))
    c.in-Err-Refused.field-0-is c.in-Err-Refused.ensures.carries in
    let is : g.P.Disk.is_modelled → c.as_slice-2.result.now ≡ install_told m set = λ t.
    c.as_slice-2.ensures.value
    ∙ c.refused_line.ensures
    ∙ ap (λ (l : List ℕ). l ++ refused_line refusal) none
    ∙ refused_told g.P.Disk t size d set old mid refl m (c.requires.represents t)
    (device_stands d size (g.P.Disk.seen old) (c.requires.represents t)) refusal other carries in
    subst
    (λ (s : Status). PerformsActs g.P.Disk d (install_act set ∷ []) old new (Err s))
    (sym c.in-Err-say_line.ensures.failed)
    (install_refused_broken g.P.Disk d set old mid c.requires.kept c.requires.represents new
    c.say_line-2.ensures.size refusal other carries
    (λ t.
    subst
    (λ (l : List ℕ). Says g.P.Disk {A = Status} {E = Status} l mid new (Err Port)) (is t)
    (says_err g.P.Disk _ mid new _ Port (c.in-Err-say_line.ensures.says t)))
    c.in-Err-say_line.ensures.port)

pub returns-in-Err-say_line-clause-changes : goal.returns-in-Err-say_line-clause-changes
returns-in-Err-say_line-clause-changes g c = λ t.
    let says = c.say_line-2.ensures.says t in
    changes_then g.P.Disk _ c.args.port.now c.install.new.d c.say_line-2.new.port
    (c.install.ensures.carries.changes t)
    (changes_telling g.P.Disk _ _ c.install.new.d c.say_line-2.new.port c.say_line-2.ensures.size
    (λ t. says.seen) (λ t. says.crash) (λ t. says.time))

pub returns-in-Ok-say_line-2-clause-refused : goal.returns-in-Ok-say_line-2-clause-refused
returns-in-Ok-say_line-2-clause-refused g c = λ t is.
    let old = c.args.port.now in
    let mid = c.install.new.d in
    let size = g.P.Disk.size old in
    let d = c.args.device in
    let set = c.args.set.now in
    let m : Mounted = mounted_on d (g.P.Disk.seen old) in
    let refusal : Refusal = c.in-Err-Refused.refusal in
    let other : c.in-Err-Refused.refusal ≢ NoMemory = search rules in
    let carries = subst
    (λ (x : Stop).
    Carried g.P.Disk d set old mid c.requires.kept c.requires.represents (Err x))
    c.in-Err-Refused.field-0-is c.in-Err-Refused.ensures.carries in
    record {
      image = c.install.new.at;
      refusal = refusal;
      is = c.note_installing.ensures;
      holds = refused_reply g.P.Disk t size d set old mid refl m (c.requires.represents t)
          (device_stands d size (g.P.Disk.seen old) (c.requires.represents t)) refusal other
          carries;
    }

-- what is written, and a line told behind it
module _ {D : Type 0} (g : Ghosts D) (t : g.is_modelled) (d : Device)
    (set : List SetImage) (old mid new : D) (r : Result Device Stop)
    (is : CarriesOrders g d (install_orders d.control.current set) old mid r)
    (rests : IsAtRest g old → IsAtRest g mid) where
  set_told : {A E : Type 0} (text : List ℕ) (q : Result A E)
      → Says g text mid new q
      → WritesInOrder g d (install_orders d.control.current set) old new
  set_told text q says =
      orders_told g d (install_orders d.control.current set) old mid new text
      (orders_alone g d (install_orders d.control.current set) old mid r (is.writes t))
      rests says.seen says.time

pub returns-in-Ok-say_line-clause-writes : goal.returns-in-Ok-say_line-clause-writes
returns-in-Ok-say_line-clause-writes g c = λ t.
    set_told g.P.Disk t c.args.device c.args.set.now c.args.port.now c.install.new.d
    c.say_line.new.port (Ok c.in-Ok.device) c.in-Ok.ensures
    (λ rest. c.in-Ok.ensures.carries.rest t rest) _ _ (c.say_line.ensures.says t)

pub returns-in-Err-clause-writes : goal.returns-in-Err-clause-writes
returns-in-Err-clause-writes g c = λ t.
    set_told g.P.Disk t c.args.device c.args.set.now c.args.port.now c.install.new.d
    c.say_line.new.port (Ok c.in-Ok.device) c.in-Ok.ensures
    (λ rest. c.in-Ok.ensures.carries.rest t rest) _ _ (c.say_line.ensures.says t)

pub returns-in-Err-Disk-clause-writes : goal.returns-in-Err-Disk-clause-writes
returns-in-Err-Disk-clause-writes g c = λ t.
    orders_alone g.P.Disk c.args.device
    (install_orders c.args.device.control.current c.args.set.now) c.args.port.now c.install.new.d
    _ (c.in-Err-Disk.ensures.writes t)

-- a command was refused
module _ {D : Type 0} (g : Ghosts D) (t : g.is_modelled) (d : Device)
    (set : List SetImage) (old mid : D) (s : Stop) (refusal : Refusal)
    (same : s ≡ stops.Refused refusal)
    (is : CarriesOrders g d (install_orders d.control.current set) old mid (Err s)) where
  refused_is : CarriesOrders g d (install_orders d.control.current set) old mid
      (Err (stops.Refused refusal))
  refused_is =
      subst
      (λ (x : Stop). CarriesOrders g d (install_orders d.control.current set) old mid (Err x))
      same is

  refused_alone : WritesInOrder g d (install_orders d.control.current set) old mid
  refused_alone =
      orders_alone g d (install_orders d.control.current set) old mid
      (Err (stops.Refused refusal)) (refused_is.writes t)

  refused_said : {A E : Type 0} (new : D) (text : List ℕ) (q : Result A E)
      → Says g text mid new q
      → WritesInOrder g d (install_orders d.control.current set) old new
  refused_said new text q says =
      orders_told g d (install_orders d.control.current set) old mid new text refused_alone
      (λ rest. refused_is.carries.rest t rest) says.seen says.time

pub returns-then-eq-clause-writes : goal.returns-then-eq-clause-writes
returns-then-eq-clause-writes g c = λ t.
    refused_alone g.P.Disk t c.args.device c.args.set.now c.args.port.now c.install.new.d _
    c.in-Err-Refused.refusal c.in-Err-Refused.field-0-is c.in-Err-Refused.ensures

pub returns-in-Ok-say_line-2-clause-writes : goal.returns-in-Ok-say_line-2-clause-writes
returns-in-Ok-say_line-2-clause-writes g c = λ t.
    refused_said g.P.Disk t c.args.device c.args.set.now c.args.port.now c.install.new.d _
    c.in-Err-Refused.refusal c.in-Err-Refused.field-0-is c.in-Err-Refused.ensures
    c.say_line-2.new.port _ _ (c.say_line-2.ensures.says t)

pub returns-in-Err-say_line-clause-writes : goal.returns-in-Err-say_line-clause-writes
returns-in-Err-say_line-clause-writes g c = λ t.
    refused_said g.P.Disk t c.args.device c.args.set.now c.args.port.now c.install.new.d _
    c.in-Err-Refused.refusal c.in-Err-Refused.field-0-is c.in-Err-Refused.ensures
    c.say_line-2.new.port _ _ (c.say_line-2.ensures.says t)

-- all are done, and a line is told behind it
pub returns-in-Ok-say_line-clause-done : goal.returns-in-Ok-say_line-clause-done
returns-in-Ok-say_line-clause-done g c = λ t.
    let says = c.say_line.ensures.says t in
    let wrote = c.in-Ok.ensures.writes t in
    subst
    (λ (i : Image).
    OrdersDone g.P.Disk.is_modelled (g.P.Disk.size c.args.port.now) c.args.device
    (g.P.Disk.seen c.args.port.now)
    (install_orders c.args.device.control.current c.args.set.now) c.in-Ok.device i)
    (sym says.seen) wrote.done
