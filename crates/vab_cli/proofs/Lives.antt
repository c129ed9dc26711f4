-- Acts of the verb `demo`.
use Rattle.std.proofs.Common.{◌≡◌, inl, inr, ℕ, List, [], ◌∷◌, Result, Ok, Err, refl}
use Rattle.std.proofs.Common.{sym, subst}
use Rattle.vab_disk.specs.declared.disk.Disk.{Ghosts}
use Rattle.vab_disk.specs.Disk.{Image, SinkFailed}
use Rattle.vab_disk.proofs.CallLaws.{changes_telling}
use Rattle.vab_device.specs.declared.device.Device.{Device}
use Rattle.vab_device.specs.Kept.{IsDevice}
use Rattle.vab_device.specs.Mounted.{Mounted, mounted_on}
use Rattle.vab_device.specs.Reading.{IsIn, Represents}
use Rattle.vab_device.proofs.ReadingLaws.{device_stands}
use Rattle.vab_commands.proofs.CopiesLaws.{both_copies, copies_stay}
use Rattle.vab_cli.specs.declared.status.Status.{Status}
use Rattle.vab_cli.specs.declared.status.Status.TheVariants.{Done, Port}
use Rattle.vab_cli.specs.Acts.{Performs, PerformsActs, line_act}
use Rattle.vab_cli.specs.Counts.{IsSteady}
use Rattle.vab_cli.specs.Runs.{Held}
use Rattle.vab_cli.specs.Telling.{Says, Tells}
use Rattle.vab_cli.specs.Verbs.{line_item}
use Rattle.vab_cli.proofs.Acting.{performs_item}
use Rattle.vab_cli.proofs.Courses.{of_item, one_act, performs_as}
use Rattle.vab_cli.proofs.Items.{does_line}

module _ {D : Type 0} (g : Ghosts D) (d : Device) (line : List ℕ) (old new : D)
    (represents : g.is_modelled → Represents d (g.size old) (g.seen old))
    (sized : g.size new ≡ g.size old) where
  abbrev m : Mounted
  m = mounted_on d (g.seen old)

  here : g.is_modelled → IsIn (g.size old) m (g.seen old)
  here t = device_stands d (g.size old) (g.seen old) (represents t)

  as_act : (r : Result Device Status)
      → Performs g d (of_item (line_item m line) Done) old new r
      → PerformsActs g d (line_act line ∷ []) old new r
  as_act r p =
      performs_as g d (of_item (line_item m line) Done) _ old new r
      (λ t. sym (one_act (line_act line) m)) p

  whole : (status : Status)
      → status ≡ Done
      → Tells g line Done old new status
      → Says g {A = Status} {E = Status} line old new (Ok Done)
  whole status is tells = record {
    told = tells.whole is;
    front = tells.front;
    seen = tells.seen;
    crash = tells.crash;
    left = tells.left;
    heard = tells.heard;
    time = tells.time;
  }

  part : (status : Status)
      → Tells g line Done old new status
      → Says g {A = Status} {E = Status} line old new (Err Port)
  part status tells = record {
    told = tt;
    front = tells.front;
    seen = tells.seen;
    crash = tells.crash;
    left = tells.left;
    heard = tells.heard;
    time = tells.time;
  }

  -- the line is told
  pub line_closed : IsDevice d (g.size old)
      → (status : Status)
      → status ≡ Done
      → (g.is_modelled → Tells g line Done old new status)
      → IsSteady g old new status
      → PerformsActs g d (line_act line ∷ []) old new (Ok d)
  line_closed kept status is tells steady =
      as_act (Ok d) (performs_item g d (line_item m line) Done old new (Ok d) (record {
        size = sized;
        kept = kept;
        geometry = refl;
        represents = λ t.
            subst (λ (i : Image). Represents d (g.size old) i)
            (sym ((let told = tells t in told.seen))) (represents t);
        copies = λ t held.
            copies_stay (g.size old) (g.seen old) (g.seen new)
            (let told = tells t in told.seen)
            (both_copies d (g.size old) (g.seen old) (represents t));
        ends_so = λ t. refl;
        does = λ t.
            does_line g (g.size old) m line old new (Ok Done) (here t)
            (whole status is (tells t));
        short = λ t memory. cc;
        changes = λ t.
            let told = tells t in
            changes_telling g _ _ old new sized (λ t. told.seen) (λ t. told.crash)
            (λ t. told.time);
        quiet = λ t. let told = tells t in record { left = told.left; heard = told.heard };
        stop = tt;
        steady = λ held. steady (subst Held (sym is) tt);
        disk = λ is. cc;
        port = λ is. cc;
      }))

  -- the port failed
  pub line_broken : (status : Status)
      → (g.is_modelled → Tells g line Done old new status)
      → SinkFailed (g.faults old) (g.faults new)
      → PerformsActs g d (line_act line ∷ []) old new (Err Port)
  line_broken status tells rose =
      as_act (Err Port) (performs_item g d (line_item m line) Done old new (Err Port) (record {
        size = sized;
        kept = tt;
        geometry = tt;
        represents = λ t. tt;
        copies = λ t held. absurd held;
        ends_so = λ t. tt;
        does = λ t.
            does_line g (g.size old) m line old new (Err Port) (here t) (part status (tells t));
        short = λ t memory. cc;
        changes = λ t.
            let told = tells t in
            changes_telling g _ _ old new sized (λ t. told.seen) (λ t. told.crash)
            (λ t. told.time);
        quiet = λ t. let told = tells t in record { left = told.left; heard = told.heard };
        stop = inr (inl (inr refl));
        steady = λ held. absurd held;
        disk = λ is. cc;
        port = λ is. rose;
      }))
