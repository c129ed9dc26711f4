use Rattle.std.proofs.Common.{◌≡◌, ◌∙◌, inl, inr, ⊎_elim, ℕ, List, length, Err, refl, sym}
use Rattle.std.proofs.Common.{ap, subst, arith}
use Rattle.vab_disk.specs.declared.disk.Disk.{Ghosts}
use Rattle.vab_disk.specs.Disk.{Faults, Hearing, Image, DiskFailed, SinkFailed}
use Rattle.vab_disk.proofs.CallLaws.{changes_hearing, changes_then, changes_wider}
use Rattle.vab_set.specs.declared.set.SetImage.{SetImage}
use Rattle.vab_set.specs.declared.fault.SetFault.{SetFault}
use Rattle.vab_set.specs.Reading.{Gives, set_of}
use Rattle.std.specs.Prelude.{Result}
use Rattle.vab_device.specs.Reading.{Represents}
use Rattle.vab_recover.specs.Opening.{IsOfOpening}
use Rattle.vab_commands.specs.Touched.{IsOfCommands}
use Rattle.vab_cli.specs.declared.status.Status.{Status}
use Rattle.vab_cli.specs.declared.status.Status.TheVariants.{Disk}
use Rattle.vab_cli.specs.Acts.{install_act, status_in}
use Rattle.vab_update.specs.Install.{install_effect}
use Rattle.vab_cli.specs.Installing.{RunsOrFails, install_item, install_status}
use Rattle.vab_cli.specs.Touched.{IsOfServing}
use Rattle.vab_cli.specs.Verbs.{none_line}
use Rattle.vab_cli.proofs.InputFaults.{short_before, unheard_before, unheard_malformed}
use Rattle.vab_cli.proofs.InputFaults.{unread_before, set_memory, same_set, not_both}
use Rattle.vab_cli.proofs.InputFaults.{input_undone, set_undone, opening_undone}
use Rattle.vab_cli.proofs.InputFaults.{early_unheld, heard_from, heard_whole, unheard_whole}
use Rattle.vab_input.specs.HearsToEnd.{HearsToEnd, HearsWithin}
use Rattle.vab_input.proofs.HearingLaws.{within_none}
use Rattle.vab_cli.specs.Runs.{Held}
use Rattle.vab_cli.proofs.Acting.{acted_disk, acted_port, acted_words, install_is_act, runs_act}
use Rattle.vab_cli.proofs.Installs.{install_long}
use Rattle.vab_cli.proofs.Lines.{held_reply}
use Rattle.vab_cli.proofs.Running.{same_opened, same_heard}
use Rattle.vab_cli.proofs.Running.{MeansSame}
use Rattle.vab_cli.proofs.Touching.{served_changes}
use Rattle.vab_device.specs.Mounted.{Mounted, mounted_on}
use Rattle.vab_cli.specs.Causes.{IsUninstalledOn, too_long, malformed}
use Rattle.vab_cli.proofs.Causing.{device_opened, ended_opened, ended_read, ended_refused}
use Rattle.vab_cli.proofs.Causing.{input_long, input_opened, input_unrefused, opening_kind}
use Rattle.vab_cli.proofs.Causing.{set_opened, set_read, set_unrefused, unopened_read}
use Rattle.vab_cli.proofs.Causing.{unopened_unrefused}
use Rattle.vab_commands.proofs.CopiesLaws.{both_copies, copies_stay}
use Rattle.vab_cli.proofs.CopiesLeft.{early_unanswered, performed_copies}
use Rattle.vab_cli.specs.Written.{WritesInstall}
use Rattle.vab_cli.proofs.Writing.{changes_as, writes_installed}
use Rattle.vab_cli.proofs.installing.install.Goals as goal

pub returns-in-Err-clause-runs : goal.returns-in-Err-clause-runs
returns-in-Err-clause-runs g c =
    let old = c.args.port.now in
    let mid = c.open.new.port in
    let size = g.P.Disk.size old in
    record {
      runs = λ t. record {
        opened = λ s stands. record {
          item = λ set fits is. inr (inr (c.in-Err.ensures.early t s stands));
          malformed = λ bad. inr (inr (c.in-Err.ensures.early t s stands));
        };
        none = λ fault none. c.in-Err.ensures.none t fault none;
      };
      writes = λ t s stands. record {
        touches = changes_wider g.P.Disk (IsOfServing IsOfCommands size (g.P.Disk.seen old))
            (IsOfOpening size (g.P.Disk.seen old)) old mid (c.open.ensures.changes t)
            (λ n x w. inl w);
        in_turn = λ set is.
            inr (changes_as g.P.Disk (IsOfOpening size (g.P.Disk.seen old)) old mid t
            (c.open.ensures.changes t));
      };
      hears = λ t. record {
        unheard = λ fault none. c.open.ensures.quiet t;
        heard = λ s stands held port memory. (let early = c.in-Err.ensures.early t s stands in
            early_unheld early.early held memory);
        within = (let quiet = c.open.ensures.quiet t in
            within_none (g.P.Disk.heard old) (g.P.Disk.heard mid) quiet.heard);
        end = λ done. absurd
            (opening_undone g.P.Disk none_line old mid c.in-Err.status (c.in-Err.ensures.early t)
            (c.in-Err.ensures.none t) done);
      };
    }

pub returns-in-Err-hear_all-clause-runs : goal.returns-in-Err-hear_all-clause-runs
returns-in-Err-hear_all-clause-runs g c =
    let old = c.args.port.now in
    let mid = c.open.new.port in
    let now = c.hear_all.new.p in
    let size = g.P.Disk.size old in
    let status = c.from.result in
    let fault = c.in-Err-hear_all.fault in
    let same : g.P.Disk.is_modelled → MeansSame g.P.Disk size old now = λ t.
    same_heard g.P.Disk size old mid now
    (same_opened g.P.Disk size old mid (c.in-Ok.ensures.opens t))
    (c.hear_all.ensures.told t) (c.hear_all.ensures.seen t)
    (c.hear_all.ensures.crash t) (c.hear_all.ensures.time t) in
    record {
      runs = λ t. record {
        opened = λ s stands. record {
          item = λ set fits is.
              unheard_before g.P.Disk g.met.P.Disk.only_now old now s stands (same t)
              (install_item s set) (inl refl) (inl (install_long s set)) (install_status s set)
              fault status c.from.ensures
              (λ long.
              let opens = c.in-Ok.ensures.opens t in
              let left : g.P.Disk.input_left mid ≡ g.P.Disk.input_left old = opens.left in
              omega (arith, fits, c.in-Err-hear_all.ensures.long t (ap Err long), ap length left))
              (held_reply (install_effect s set).reply);
          malformed = λ bad.
              unheard_malformed g.P.Disk g.met.P.Disk.only_now old now s stands (same t)
              fault status c.from.ensures;
        };
        none = λ fault none. absurd (c.in-Ok.ensures.found t fault none);
      };
      writes = λ t s stands. record {
        touches =
            changes_then g.P.Disk (IsOfServing IsOfCommands size (g.P.Disk.seen old)) old mid now
            (changes_wider g.P.Disk (IsOfServing IsOfCommands size (g.P.Disk.seen old))
            (IsOfOpening size (g.P.Disk.seen old)) old mid (c.open.ensures.changes t)
            (λ n x w. inl w))
            (changes_hearing g.P.Disk _ mid now c.hear_all.ensures.size c.hear_all.ensures.seen
            c.hear_all.ensures.crash c.hear_all.ensures.time);
        in_turn = λ set is.
            inr (changes_as g.P.Disk (IsOfOpening size (g.P.Disk.seen old)) old now t
            (changes_then g.P.Disk (IsOfOpening size (g.P.Disk.seen old)) old mid now
            (c.open.ensures.changes t)
            (changes_hearing g.P.Disk _ mid now c.hear_all.ensures.size c.hear_all.ensures.seen
            c.hear_all.ensures.crash c.hear_all.ensures.time)));
      };
      hears = λ t. record {
        unheard = λ fault none. absurd (c.in-Ok.ensures.found t fault none);
        heard = λ s stands held. (let opens = c.in-Ok.ensures.opens t in
            heard_from (g.P.Disk.input_left old) (g.P.Disk.input_left mid) (g.P.Disk.heard old)
            (g.P.Disk.heard mid) (g.P.Disk.heard now) status opens.left opens.heard
            (unheard_whole fault (g.P.Disk.input_left mid) (g.P.Disk.heard mid)
            (g.P.Disk.heard now) status c.from.ensures
            (λ long. c.in-Err-hear_all.ensures.long t (ap Err long))
            (λ long. c.in-Err-hear_all.ensures.over t (ap Err long))));
        within = (let opens = c.in-Ok.ensures.opens t in
            subst (λ (l : List Hearing). HearsWithin l (g.P.Disk.heard now)) opens.heard
            (c.hear_all.ensures.within t));
        end = λ done. absurd (input_undone fault (sym c.from.ensures ∙ done));
      };
    }

pub returns-in-Err-read_set-clause-runs : goal.returns-in-Err-read_set-clause-runs
returns-in-Err-read_set-clause-runs g c =
    let old = c.args.port.now in
    let mid = c.open.new.port in
    let now = c.hear_all.new.p in
    let size = g.P.Disk.size old in
    let status = c.from-in-Err-read_set.result in
    let fault = c.in-Err-read_set.fault in
    let same : g.P.Disk.is_modelled → MeansSame g.P.Disk size old now = λ t.
    same_heard g.P.Disk size old mid now
    (same_opened g.P.Disk size old mid (c.in-Ok.ensures.opens t))
    (c.hear_all.ensures.told t) (c.hear_all.ensures.seen t)
    (c.hear_all.ensures.crash t) (c.hear_all.ensures.time t) in
    record {
      runs = λ t. record {
        opened = λ s stands. record {
          item = λ set fits is. let opens = c.in-Ok.ensures.opens t in
              let text : c.deref.result.now ≡ g.P.Disk.input_left old =
              c.deref.ensures.value ∙ c.in-Ok-hear_all.ensures.bytes t ∙ opens.left in
              short_before g.P.Disk g.met.P.Disk.only_now old now s stands (same t)
              (install_item s set) (inl refl) (inl (install_long s set)) (install_status s set)
              status
              (c.from-in-Err-read_set.ensures
              ∙ set_memory fault set
              (subst
              (λ (r : Result (List SetImage) SetFault).
              Gives {X = List SetImage} {Y = List SetImage} (λ v. v) (Err fault) r)
              (ap set_of text ∙ is) c.in-Err-read_set.ensures.exact));
          malformed = λ bad. unread_before g.P.Disk g.met.P.Disk.only_now old now s stands (same t)
              fault status c.from-in-Err-read_set.ensures;
        };
        none = λ fault none. absurd (c.in-Ok.ensures.found t fault none);
      };
      writes = λ t s stands. record {
        touches =
            changes_then g.P.Disk (IsOfServing IsOfCommands size (g.P.Disk.seen old)) old mid now
            (changes_wider g.P.Disk (IsOfServing IsOfCommands size (g.P.Disk.seen old))
            (IsOfOpening size (g.P.Disk.seen old)) old mid (c.open.ensures.changes t)
            (λ n x w. inl w))
            (changes_hearing g.P.Disk _ mid now c.hear_all.ensures.size c.hear_all.ensures.seen
            c.hear_all.ensures.crash c.hear_all.ensures.time);
        in_turn = λ set is.
            inr (changes_as g.P.Disk (IsOfOpening size (g.P.Disk.seen old)) old now t
            (changes_then g.P.Disk (IsOfOpening size (g.P.Disk.seen old)) old mid now
            (c.open.ensures.changes t)
            (changes_hearing g.P.Disk _ mid now c.hear_all.ensures.size c.hear_all.ensures.seen
            c.hear_all.ensures.crash c.hear_all.ensures.time)));
      };
      hears = λ t. record {
        unheard = λ fault none. absurd (c.in-Ok.ensures.found t fault none);
        heard = λ s stands held. (let opens = c.in-Ok.ensures.opens t in
            heard_from (g.P.Disk.input_left old) (g.P.Disk.input_left mid) (g.P.Disk.heard old)
            (g.P.Disk.heard mid) (g.P.Disk.heard now) status opens.left opens.heard
            (λ port memory.
            heard_whole (g.P.Disk.input_left mid) _ (g.P.Disk.heard mid) (g.P.Disk.heard now)
            (c.in-Ok-hear_all.ensures.bytes t) c.in-Ok-hear_all.ensures.fits
            (c.in-Ok-hear_all.ensures.heard t)));
        within = (let opens = c.in-Ok.ensures.opens t in
            subst (λ (l : List Hearing). HearsWithin l (g.P.Disk.heard now)) opens.heard
            (c.hear_all.ensures.within t));
        end = λ done. absurd (set_undone fault (sym c.from-in-Err-read_set.ensures ∙ done));
      };
    }

pub returns-clause-runs : goal.returns-clause-runs
returns-clause-runs g c =
    let old = c.args.port.now in
    let mid = c.open.new.port in
    let now = c.hear_all.new.p in
    let new = c.install_set.new.port in
    let size = g.P.Disk.size old in
    let status = c.ended.result in
    let read = c.in-Ok-read_set.set in
    let sized : g.P.Disk.size now ≡ size = c.hear_all.ensures.size ∙ c.open.ensures.size in
    let same : g.P.Disk.is_modelled → MeansSame g.P.Disk size old now = λ t.
    same_heard g.P.Disk size old mid now
    (same_opened g.P.Disk size old mid (c.in-Ok.ensures.opens t))
    (c.hear_all.ensures.told t) (c.hear_all.ensures.seen t)
    (c.hear_all.ensures.crash t) (c.hear_all.ensures.time t) in
    let text : g.P.Disk.is_modelled → c.deref.result.now ≡ g.P.Disk.input_left old = λ t.
    (let opens = c.in-Ok.ensures.opens t in
    c.deref.ensures.value ∙ c.in-Ok-hear_all.ensures.bytes t ∙ opens.left) in
    let represents : (t : g.P.Disk.is_modelled)
    → Represents c.in-Ok.device size (g.P.Disk.seen now) = λ t.
    subst (λ (x : Image). Represents c.in-Ok.device size x)
    (sym (c.hear_all.ensures.seen t)) (c.in-Ok.ensures.represents t) in
    let p = c.install_set.ensures.performs in
    record {
      runs = λ t. record {
        opened = λ s stands. record {
          item = λ set fits is. let found : read ≡ set =
              same_set _ _ set read (text t) c.in-Ok-read_set.ensures.exact is in
              let runs = runs_act g.P.Disk g.met.P.Disk.only_now (install_act read)
              (install_is_act read) c.in-Ok.device s old now new c.install_set.result (same t) sized
              stands
              (subst (λ (n : ℕ). Represents c.in-Ok.device n (g.P.Disk.seen now)) (sym sized)
              (represents t))
              t p in
              subst
              (λ (x : Status).
              RunsOrFails g.P.Disk old new x s (install_item s set) (install_status s set))
              (sym c.ended.ensures)
              (subst
              (λ (x : List SetImage).
              RunsOrFails g.P.Disk old new (status_in c.install_set.result) s (install_item s x)
              (install_status s x))
              found
              (⊎_elim (λ item. inl item) (λ short. inr (inl short)) runs));
          malformed = λ bad. ⊎_elim
              (λ long.
              absurd (omega (
                arith,
                long,
                c.in-Ok-hear_all.ensures.fits,
                ap length (sym c.deref.ensures.value ∙ text t),
              )))
              (λ bad. not_both _ _ read bad.0 (text t) c.in-Ok-read_set.ensures.exact bad.1)
              bad;
        };
        none = λ fault none. absurd (c.in-Ok.ensures.found t fault none);
      };
      writes = λ t s stands. record {
        touches =
            served_changes g.P.Disk size IsOfCommands c.in-Ok.device old now new t (represents t)
            (changes_then g.P.Disk (IsOfOpening size (g.P.Disk.seen old)) old mid now
            (c.open.ensures.changes t)
            (changes_hearing g.P.Disk _ mid now c.hear_all.ensures.size c.hear_all.ensures.seen
            c.hear_all.ensures.crash c.hear_all.ensures.time))
            (c.install_set.ensures.changes t);
        in_turn = λ set is. let found : read ≡ set =
            same_set _ _ set read (text t) c.in-Ok-read_set.ensures.exact is in
            subst
            (λ (x : List SetImage).
            WritesInstall g.P.Disk (IsOfOpening size (g.P.Disk.seen old)) size x old new)
            found
            (writes_installed g.P.Disk (IsOfOpening size (g.P.Disk.seen old)) size
            c.in-Ok.device read old now new t sized (represents t)
            (changes_then g.P.Disk (IsOfOpening size (g.P.Disk.seen old)) old mid now
            (c.open.ensures.changes t)
            (changes_hearing g.P.Disk _ mid now c.hear_all.ensures.size c.hear_all.ensures.seen
            c.hear_all.ensures.crash c.hear_all.ensures.time))
            (same t).settled (c.install_set.ensures.writes t));
      };
      hears = λ t. record {
        unheard = λ fault none. absurd (c.in-Ok.ensures.found t fault none);
        heard = λ s stands held. (let opens = c.in-Ok.ensures.opens t in
            let quiet = p.quiet t in
            heard_from (g.P.Disk.input_left old) (g.P.Disk.input_left mid) (g.P.Disk.heard old)
            (g.P.Disk.heard mid) (g.P.Disk.heard new) status opens.left opens.heard
            (λ port memory.
            heard_whole (g.P.Disk.input_left mid) _ (g.P.Disk.heard mid) (g.P.Disk.heard new)
            (c.in-Ok-hear_all.ensures.bytes t) c.in-Ok-hear_all.ensures.fits
            (subst (λ (l : List Hearing). HearsToEnd (g.P.Disk.heard mid) l) (sym quiet.heard)
            (c.in-Ok-hear_all.ensures.heard t))));
        within = (let opens = c.in-Ok.ensures.opens t in
            let quiet = p.quiet t in
            subst (λ (l : List Hearing). HearsWithin (g.P.Disk.heard old) l) (sym quiet.heard)
            (subst (λ (l : List Hearing). HearsWithin l (g.P.Disk.heard now)) opens.heard
            (c.hear_all.ensures.within t)));
        end = λ done. (let quiet = p.quiet t in quiet.left) ∙ c.in-Ok-hear_all.ensures.end t;
      };
    }

-- no fault was met before
unfaulty : {D : Type 0} (g : Ghosts D) (old mid now : D)
    → g.faults mid ≡ g.faults old
    → g.faults now ≡ g.faults mid
    → g.faults now ≡ g.faults old
unfaulty g old mid now first second = second ∙ first

pub returns-clause-steady : goal.returns-clause-steady
returns-clause-steady g c = λ held.
    let p = c.install_set.ensures.performs in
    p.steady (subst Held c.ended.ensures held)
    ∙ unfaulty g.P.Disk c.args.port.now c.open.new.port c.hear_all.new.p
    c.in-Ok.ensures.steady (c.in-Ok-hear_all.ensures.steady (λ none. cc))

pub returns-clause-words : goal.returns-clause-words
returns-clause-words g c = λ is.
    acted_words g.P.Disk c.in-Ok.device _ c.hear_all.new.p c.install_set.new.port
    c.install_set.result c.install_set.ensures.performs (sym c.ended.ensures ∙ is)

pub returns-clause-disk : goal.returns-clause-disk
returns-clause-disk g c = λ is.
    subst (λ (f : Faults). DiskFailed f (g.P.Disk.faults c.install_set.new.port))
    (unfaulty g.P.Disk c.args.port.now c.open.new.port c.hear_all.new.p
    c.in-Ok.ensures.steady (c.in-Ok-hear_all.ensures.steady (λ none. cc)))
    (acted_disk g.P.Disk c.in-Ok.device _ c.hear_all.new.p c.install_set.new.port
    c.install_set.result c.install_set.ensures.performs (sym c.ended.ensures ∙ is))

pub returns-clause-port : goal.returns-clause-port
returns-clause-port g c = λ is.
    inr (subst (λ (f : Faults). SinkFailed f (g.P.Disk.faults c.install_set.new.port))
    (unfaulty g.P.Disk c.args.port.now c.open.new.port c.hear_all.new.p
    c.in-Ok.ensures.steady (c.in-Ok-hear_all.ensures.steady (λ none. cc)))
    (acted_port g.P.Disk c.in-Ok.device _ c.hear_all.new.p c.install_set.new.port
    c.install_set.result c.install_set.ensures.performs (sym c.ended.ensures ∙ is)))

pub returns-in-Err-clause-uninstalled : goal.returns-in-Err-clause-uninstalled
returns-in-Err-clause-uninstalled g c = λ t refused.
    unopened_unrefused
    (opening_kind g.P.Disk none_line c.args.port.now c.open.new.port c.in-Err.status
    (c.in-Err.ensures.early t) (c.in-Err.ensures.none t))
    refused

pub returns-in-Err-clause-no_set : goal.returns-in-Err-clause-no_set
returns-in-Err-clause-no_set g c = λ t bad.
    unopened_read
    (opening_kind g.P.Disk none_line c.args.port.now c.open.new.port c.in-Err.status
    (c.in-Err.ensures.early t) (c.in-Err.ensures.none t))
    bad

pub returns-in-Err-hear_all-clause-unopened : goal.returns-in-Err-hear_all-clause-unopened
returns-in-Err-hear_all-clause-unopened g c = λ t none.
    input_opened c.in-Err-hear_all.fault (sym c.from.ensures ∙ none)

pub returns-in-Err-hear_all-clause-uninstalled : goal.returns-in-Err-hear_all-clause-uninstalled
returns-in-Err-hear_all-clause-uninstalled g c = λ t refused.
    input_unrefused c.in-Err-hear_all.fault (sym c.from.ensures ∙ refused)

pub returns-in-Err-hear_all-clause-no_set : goal.returns-in-Err-hear_all-clause-no_set
returns-in-Err-hear_all-clause-no_set g c = λ t bad.
    let opens = c.in-Ok.ensures.opens t in
    let left : g.P.Disk.input_left c.open.new.port ≡ g.P.Disk.input_left c.args.port.now =
    opens.left in
    let long = c.in-Err-hear_all.ensures.long t
    (ap Err (input_long c.in-Err-hear_all.fault (sym c.from.ensures ∙ bad))) in
    too_long refl (omega (arith, long, ap length left))

pub returns-in-Err-read_set-clause-unopened : goal.returns-in-Err-read_set-clause-unopened
returns-in-Err-read_set-clause-unopened g c = λ t none.
    set_opened c.in-Err-read_set.fault (sym c.from-in-Err-read_set.ensures ∙ none)

pub returns-in-Err-read_set-clause-uninstalled : goal.returns-in-Err-read_set-clause-uninstalled
returns-in-Err-read_set-clause-uninstalled g c = λ t refused.
    set_unrefused c.in-Err-read_set.fault (sym c.from-in-Err-read_set.ensures ∙ refused)

pub returns-in-Err-read_set-clause-no_set : goal.returns-in-Err-read_set-clause-no_set
returns-in-Err-read_set-clause-no_set g c = λ t bad.
    let opens = c.in-Ok.ensures.opens t in
    let text : c.deref.result.now ≡ g.P.Disk.input_left c.args.port.now =
    c.deref.ensures.value ∙ c.in-Ok-hear_all.ensures.bytes t ∙ opens.left in
    malformed c.in-Err-read_set.fault refl
    (set_read c.in-Err-read_set.fault _ _ text c.in-Err-read_set.ensures.exact
    (sym c.from-in-Err-read_set.ensures ∙ bad))

pub returns-clause-unopened : goal.returns-clause-unopened
returns-clause-unopened g c = λ t none.
    let p = c.install_set.ensures.performs in
    ended_opened c.install_set.result p.stop (sym c.ended.ensures ∙ none)

pub returns-clause-uninstalled : goal.returns-clause-uninstalled
returns-clause-uninstalled g c = λ t refused set is s stands.
    let old = c.args.port.now in
    let mid = c.open.new.port in
    let now = c.hear_all.new.p in
    let size = g.P.Disk.size old in
    let opens = c.in-Ok.ensures.opens t in
    let text : c.deref.result.now ≡ g.P.Disk.input_left old =
    c.deref.ensures.value ∙ c.in-Ok-hear_all.ensures.bytes t ∙ opens.left in
    let found : c.in-Ok-read_set.set ≡ set =
    same_set _ _ set c.in-Ok-read_set.set text c.in-Ok-read_set.ensures.exact is in
    let seen : g.P.Disk.seen now ≡ g.P.Disk.seen mid = c.hear_all.ensures.seen t in
    subst (λ (x : List SetImage). IsUninstalledOn s x c.install_set.new.cause) found
    (subst (λ (m : Mounted). IsUninstalledOn m c.in-Ok-read_set.set c.install_set.new.cause)
    (ap (mounted_on c.in-Ok.device) seen
    ∙ device_opened c.in-Ok.device size (g.P.Disk.seen mid) (g.P.Disk.seen old) s
    (c.in-Ok.ensures.represents t) opens.device stands)
    (c.install_set.ensures.refused t
    (ended_refused c.install_set.result (sym c.ended.ensures ∙ refused))))

pub returns-clause-no_set : goal.returns-clause-no_set
returns-clause-no_set g c = λ t bad.
    let p = c.install_set.ensures.performs in
    ended_read c.install_set.result p.stop (sym c.ended.ensures ∙ bad)

pub returns-in-Err-clause-copies : goal.returns-in-Err-clause-copies
returns-in-Err-clause-copies g c = λ t s stands answers.
    absurd
    ((let fails = c.in-Err.ensures.early t s stands in
    early_unanswered c.in-Err.status fails.early) answers)

pub returns-in-Err-hear_all-clause-copies : goal.returns-in-Err-hear_all-clause-copies
returns-in-Err-hear_all-clause-copies g c = λ t s stands answers.
    copies_stay (g.P.Disk.size c.args.port.now) (g.P.Disk.seen c.open.new.port)
    (g.P.Disk.seen c.hear_all.new.p) (c.hear_all.ensures.seen t)
    (both_copies c.in-Ok.device _ _ (c.in-Ok.ensures.represents t))

pub returns-in-Err-read_set-clause-copies : goal.returns-in-Err-read_set-clause-copies
returns-in-Err-read_set-clause-copies g c = λ t s stands answers.
    copies_stay (g.P.Disk.size c.args.port.now) (g.P.Disk.seen c.open.new.port)
    (g.P.Disk.seen c.hear_all.new.p) (c.hear_all.ensures.seen t)
    (both_copies c.in-Ok.device _ _ (c.in-Ok.ensures.represents t))

pub returns-clause-copies : goal.returns-clause-copies
returns-clause-copies g c = λ t s stands answers.
    performed_copies g.P.Disk c.in-Ok.device _ (g.P.Disk.size c.args.port.now) c.hear_all.new.p
    c.install_set.new.port c.install_set.result c.ended.result t
    (c.hear_all.ensures.size ∙ c.open.ensures.size)
    c.install_set.ensures.performs c.ended.ensures answers
