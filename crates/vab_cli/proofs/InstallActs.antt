-- A set that is installed on an open device, and its line.
use Rattle.std.proofs.Common.{◌≡◌, ◌∙◌, inl, inr, List, [], ◌∷◌, Result, Ok}
use Rattle.std.proofs.Common.{Err, refl, sym, subst}
use Rattle.vab_disk.specs.declared.disk.Disk.{Ghosts}
use Rattle.vab_disk.specs.Disk.{Faults, Image, SinkFailed}
use Rattle.vab_disk.proofs.CallLaws.{changes_then, changes_telling}
use Rattle.vab_gate.specs.declared.gate.DiskFault.{DiskFault}
use Rattle.vab_set.specs.declared.set.SetImage.{SetImage}
use Rattle.vab_model.specs.declared.command.Refusal.{Refusal}
use Rattle.vab_model.specs.declared.command.Refusal.TheVariants.{NoMemory as Want}
use Rattle.vab_device.specs.declared.device.Device.{Device}
use Rattle.vab_device.specs.Kept.{IsDevice}
use Rattle.vab_device.specs.Mounted.{Mounted, mounted_on}
use Rattle.vab_device.specs.Reading.{IsIn, Represents}
use Rattle.vab_device.proofs.ReadingLaws.{device_stands}
use Rattle.vab_commands.specs.Touched.{ChangesAll, ChangesDevice}
use Rattle.vab_commands.proofs.ChangeLaws.{changes_by}
use Rattle.vab_update.specs.declared.stop.Stop.{Stop}
use Rattle.vab_update.specs.declared.stop.Stop.TheVariants as stops
use Rattle.vab_update.specs.Carries.{CarriesOut}
use Rattle.vab_update.specs.Install.{install_orders}
use Rattle.vab_cli.specs.declared.status.Status.{Status}
use Rattle.vab_cli.specs.declared.status.Status.TheVariants.{Done, Refused, Disk, Port, NoMemory}
use Rattle.vab_cli.specs.Acts.{Performs, PerformsActs, install_act}
use Rattle.vab_commands.proofs.CopiesLaws.{copies_stay}
use Rattle.vab_cli.specs.Counts.{HearsNothing}
use Rattle.vab_cli.specs.Installing.{install_item, install_status, install_told}
use Rattle.vab_cli.specs.Telling.{Says}
use Rattle.vab_cli.proofs.Acting.{performs_item}
use Rattle.vab_cli.proofs.Courses.{of_item, one_act, performs_as}
use Rattle.vab_cli.proofs.Installs.{done_status, install_does, install_fails, install_refused}
use Rattle.vab_cli.proofs.Installs.{install_short, refused_status}

module _ {D : Type 0} (g : Ghosts D) (d : Device) (set : List SetImage) (old mid : D)
    (kept : IsDevice d (g.size old))
    (represents : g.is_modelled → Represents d (g.size old) (g.seen old)) where
  abbrev pub m : Mounted
  m = mounted_on d (g.seen old)

  abbrev pub Carried : Result Device Stop → Type 0
  Carried r = CarriesOut g d (install_orders d.control.current set) old mid r

  abbrev pub Acts : D → Result Device Status → Type 0
  Acts new r = PerformsActs g d (install_act set ∷ []) old new r

  here : g.is_modelled → IsIn (g.size old) m (g.seen old)
  here t = device_stands d (g.size old) (g.seen old) (represents t)

  as_act : (new : D) (r : Result Device Status)
      → Performs g d (of_item (install_item m set) (install_status m set)) old new r
      → Acts new r
  as_act new r p =
      performs_as g d (of_item (install_item m set) (install_status m set)) _ old new r
      (λ t. sym (one_act (install_act set) m)) p

  changes_all : (new : D) → ChangesDevice g d old new → ChangesAll g d old new
  changes_all new changes = (changes_by g d (Unit {0}) old new kept.slot changes).all

  -- the disk failed
  pub install_failed : (fault : DiskFault)
      → Carried (Err (stops.Disk fault))
      → Acts mid (Err Disk)
  install_failed fault carries =
      as_act mid (Err Disk)
      (performs_item g d (install_item m set) (install_status m set) old mid (Err Disk) (record {
        size = carries.quiet.size;
        kept = tt;
        geometry = tt;
        represents = λ t. tt;
        copies = λ t held. absurd held;
        ends_so = λ t. tt;
        does = λ t.
            install_fails g t (g.size old) d set old mid refl m (represents t) (here t)
            (stops.Disk fault) Disk carries;
        short = λ t memory. cc;
        changes = λ t. changes_all mid (carries.changes t);
        quiet = λ t. record { left = carries.quiet.left t; heard = carries.quiet.heard t };
        stop = inr (inl (inl refl));
        steady = λ held. absurd held;
        disk = λ is. carries.cause;
        port = λ is. cc;
      }))

  -- memory was refused
  pub install_wanted : Carried (Err (stops.Refused Want)) → Acts mid (Err NoMemory)
  install_wanted carries =
      as_act mid (Err NoMemory)
      (performs_item g d (install_item m set) (install_status m set) old mid (Err NoMemory)
      (record {
        size = carries.quiet.size;
        kept = tt;
        geometry = tt;
        represents = λ t. tt;
        copies = λ t held. carries.copies t;
        ends_so = λ t. tt;
        does = λ t.
            install_fails g t (g.size old) d set old mid refl m (represents t) (here t)
            (stops.Refused Want) NoMemory carries;
        short = λ t memory.
            install_short g t (g.size old) d set old mid refl m (represents t) (here t) carries;
        changes = λ t. changes_all mid (carries.changes t);
        quiet = λ t. record { left = carries.quiet.left t; heard = carries.quiet.heard t };
        stop = inr (inr refl);
        steady = λ held. carries.steady;
        disk = λ is. cc;
        port = λ is. cc;
      }))

  -- ---- its line is told, whole or in part

  module _ (new : D) (sized : g.size new ≡ g.size mid) where
    changes_told : g.is_modelled
        → {A E : Type 0} (r : Result A E)
        → ChangesDevice g d old mid
        → Says g (install_told m set) mid new r
        → ChangesAll g d old new
    changes_told t r changes says =
        changes_then g _ old mid new (changes_all mid changes)
        (changes_telling g _ _ mid new sized (λ t. says.seen) (λ t. says.crash)
        (λ t. says.time))

    quiet_told : {A E : Type 0} (r : Result A E)
        → HearsNothing g old mid
        → Says g (install_told m set) mid new r
        → HearsNothing g old new
    quiet_told r quiet says = record {
      left = says.left ∙ quiet.left;
      heard = says.heard ∙ quiet.heard;
    }

    -- a command was refused
    module _ (refusal : Refusal) (other : refusal ≡ Want → ⊥)
        (carries : Carried (Err (stops.Refused refusal))) where
      pub install_closed : (g.is_modelled
          → Says g (install_told m set) mid new (let r : Result Status Status = Ok Refused in r))
          → g.faults new ≡ g.faults mid
          → Acts new (Err Refused)
      install_closed says faults =
          as_act new (Err Refused)
          (performs_item g d (install_item m set) (install_status m set) old new (Err Refused)
          (record {
            size = sized ∙ carries.quiet.size;
            kept = tt;
            geometry = tt;
            represents = λ t. tt;
            copies = λ t held.
                copies_stay (g.size old) (g.seen mid) (g.seen new)
                (let told = says t in told.seen) (carries.copies t);
            ends_so = λ t.
                refused_status g t (g.size old) d set old mid refl m (represents t) (here t)
                refusal other carries;
            does = λ t.
                install_refused g t (g.size old) d set old mid refl m (represents t) (here t)
                refusal other carries new (Ok Refused) (says t);
            short = λ t memory. cc;
            changes = λ t. changes_told t (Ok Refused) (carries.changes t) (says t);
            quiet = λ t.
                quiet_told (Ok Refused)
                (record { left = carries.quiet.left t; heard = carries.quiet.heard t })
                (says t);
            stop = inl refl;
            steady = λ held. faults ∙ carries.steady;
            disk = λ is. cc;
            port = λ is. cc;
          }))

      pub install_refused_broken : (g.is_modelled
          → Says g (install_told m set) mid new (let r : Result Status Status = Err Port in r))
          → SinkFailed (g.faults mid) (g.faults new)
          → Acts new (Err Port)
      install_refused_broken says rose =
          as_act new (Err Port)
          (performs_item g d (install_item m set) (install_status m set) old new (Err Port)
          (record {
            size = sized ∙ carries.quiet.size;
            kept = tt;
            geometry = tt;
            represents = λ t. tt;
            copies = λ t held. absurd held;
            ends_so = λ t. tt;
            does = λ t.
                install_refused g t (g.size old) d set old mid refl m (represents t) (here t)
                refusal other carries new (Err Port) (says t);
            short = λ t memory. cc;
            changes = λ t. changes_told t (Err Port) (carries.changes t) (says t);
            quiet = λ t.
                quiet_told (Err Port)
                (record { left = carries.quiet.left t; heard = carries.quiet.heard t })
                (says t);
            stop = inr (inl (inr refl));
            steady = λ held. absurd held;
            disk = λ is. cc;
            port = λ is.
                subst (λ (f : Faults). SinkFailed f (g.faults new)) carries.steady rose;
          }))

    -- all are done
    module _ (next : Device) (carries : Carried (Ok next)) where
      pub install_done : (g.is_modelled
          → Says g (install_told m set) mid new (let r : Result Status Status = Ok Done in r))
          → g.faults new ≡ g.faults mid
          → (g.is_modelled → g.seen new ≡ g.seen mid)
          → Acts new (Ok next)
      install_done says faults seen =
          as_act new (Ok next)
          (performs_item g d (install_item m set) (install_status m set) old new (Ok next)
          (record {
            size = sized ∙ carries.quiet.size;
            kept = carries.kept;
            geometry = carries.source.geometry;
            represents = λ t.
                subst (λ (i : Image). Represents next (g.size old) i) (sym (seen t))
                (carries.represents t);
            copies = λ t held.
                copies_stay (g.size old) (g.seen mid) (g.seen new) (seen t) (carries.copies t);
            ends_so = λ t.
                done_status g t (g.size old) d set old mid refl m (represents t) (here t) next
                carries;
            does = λ t.
                install_does g t (g.size old) d set old mid refl m (represents t) (here t) next
                carries new (Ok Done) (says t);
            short = λ t memory. cc;
            changes = λ t. changes_told t (Ok Done) (carries.changes t) (says t);
            quiet = λ t.
                quiet_told (Ok Done)
                (record { left = carries.quiet.left t; heard = carries.quiet.heard t })
                (says t);
            stop = tt;
            steady = λ held. faults ∙ carries.steady;
            disk = λ is. cc;
            port = λ is. cc;
          }))

      pub install_done_broken : (g.is_modelled
          → Says g (install_told m set) mid new (let r : Result Status Status = Err Port in r))
          → SinkFailed (g.faults mid) (g.faults new)
          → Acts new (Err Port)
      install_done_broken says rose =
          as_act new (Err Port)
          (performs_item g d (install_item m set) (install_status m set) old new (Err Port)
          (record {
            size = sized ∙ carries.quiet.size;
            kept = tt;
            geometry = tt;
            represents = λ t. tt;
            copies = λ t held. absurd held;
            ends_so = λ t. tt;
            does = λ t.
                install_does g t (g.size old) d set old mid refl m (represents t) (here t) next
                carries new (Err Port) (says t);
            short = λ t memory. cc;
            changes = λ t. changes_told t (Err Port) (carries.changes t) (says t);
            quiet = λ t.
                quiet_told (Err Port)
                (record { left = carries.quiet.left t; heard = carries.quiet.heard t })
                (says t);
            stop = inr (inl (inr refl));
            steady = λ held. absurd held;
            disk = λ is. cc;
            port = λ is.
                subst (λ (f : Faults). SinkFailed f (g.faults new)) carries.steady rose;
          }))
