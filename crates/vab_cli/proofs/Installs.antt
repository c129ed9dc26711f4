-- The verb `install`, by what its commands do.
use Rattle.std.proofs.Common.{◌≡◌, ◌∙◌, ◌<◌, ◌+◌, ℕ, List, ◌++◌, length, codes}
use Rattle.std.proofs.Common.{decimal, Result, Ok, Err, refl, sym, ap, subst}
use Rattle.vab_disk.specs.declared.disk.Disk.{Ghosts}
use Rattle.vab_disk.specs.Disk.{Adds}
use Rattle.vab_disk.specs.Calls.{IsAtRest}
use Rattle.vab_set.specs.declared.set.SetImage.{SetImage}
use Rattle.vab_model.specs.declared.command.Refusal.{Refusal}
use Rattle.vab_model.specs.declared.command.Refusal.TheVariants.{NoMemory}
use Rattle.vab_model.specs.declared.command.Reply.{Reply}
use Rattle.vab_model.specs.declared.command.Reply.TheVariants as replies
use Rattle.vab_model.specs.Effects.{Effect, steps_of, after_of}
use Rattle.vab_device.specs.declared.device.Device.{Device}
use Rattle.vab_device.specs.declared.fault.StartFault.{StartFault}
use Rattle.vab_device.specs.Does.{LeavesStep}
use Rattle.vab_device.specs.Mounted.{Mounted, mounted_on, count_at}
use Rattle.vab_device.specs.Reading.{IsIn, Represents}
use Rattle.vab_device.proofs.ReadingLaws.{device_stands}
use Rattle.vab_fbproto.specs.Texts.{refusal_text}
use Rattle.vab_session.specs.Responses.{left_of}
use Rattle.vab_update.specs.declared.stop.Stop.{Stop}
use Rattle.vab_update.specs.declared.stop.Stop.TheVariants as stops
use Rattle.vab_update.specs.Carries.{Carries, CarriesOut, IsAmong}
use Rattle.vab_update.specs.Install.{install_orders}
use Rattle.vab_update.specs.Orders.{effect_all}
use Rattle.vab_update.proofs.InstallLaws.{installed_staged}
use Rattle.vab_cli.specs.Codes.{reply_status}
use Rattle.vab_update.specs.Install.{install_effect}
use Rattle.vab_cli.specs.Installing.{install_item, install_told, install_line}
use Rattle.vab_cli.specs.Installing.{installed_line, install_status}
use Rattle.vab_cli.specs.Telling.{DoesItem, LeavesShort, Says}
use Rattle.vab_cli.specs.Verbs.{refused_line}
use Rattle.vab_cli.proofs.Items.{mounted_is, item_fails, item_does}
use Rattle.vab_update.proofs.OrderLaws.{last_step}
use Rattle.vab_cli.proofs.Lines.{line_some, current_is, left_here}

-- each reply has a line
installed_long : (images left : ℕ) → 0 < length (installed_line images left)
installed_long images left =
    line_some (codes "installed " ++ decimal images ++ codes " images, left " ++ decimal left)

line_long : (images left : ℕ) (reply : Reply) → 0 < length (install_line images left reply)
unfolding install_line
line_long images left replies.Done = installed_long images left
line_long images left (replies.Booted slot) = installed_long images left
line_long images left (replies.Bytes name) = installed_long images left
line_long images left (replies.Digest sum) = installed_long images left
line_long images left (replies.Left blocks) = installed_long images left
line_long images left replies.Merged = installed_long images left
line_long images left (replies.Refused refusal) =
    line_some (codes "refused: " ++ refusal_text refusal)

-- so what is told of an installation isn't empty
pub install_long : (s : Mounted) (set : List SetImage) → 0 < length (install_told s set)
install_long s set =
    line_long (length set) (left_of (after_of s (install_effect s set)).state.phase)
    (install_effect s set).reply

-- the line of a refusal
refused_is : (images left : ℕ) (reply : Reply) (refusal : Refusal)
    → reply ≡ replies.Refused refusal
    → install_line images left reply ≡ refused_line refusal
unfolding install_line
refused_is images left reply refusal is = rw is refl

done_is : (images left : ℕ) (reply : Reply)
    → reply ≡ replies.Done
    → install_line images left reply ≡ installed_line images left
unfolding install_line
done_is images left reply is = rw is refl

module _ {D : Type 0} (g : Ghosts D) (t : g.is_modelled) (size : ℕ) (d : Device)
    (set : List SetImage) (old mid : D)
    (sized : g.size old ≡ size)
    (s : Mounted)
    (represents : Represents d size (g.seen old))
    (is : IsIn size s (g.seen old)) where
  same : mounted_on d (g.seen old) ≡ s
  same = mounted_is d size (g.seen old) s represents is

  current : d.control.current ≡ s.state.control.current
  current =
      sym (current_is d (g.seen old)) ∙ ap (λ (x : Mounted). x.state.control.current) same

  abbrev e : Effect Mounted
  e = install_effect s set

  effect_here : effect_all (install_orders d.control.current set) (mounted_on d (g.seen old)) ≡ e
  effect_here = λ i. effect_all (install_orders (current i) set) (same i)

  -- said of the device that the disk is
  carried : (r : Result Device Stop)
      → CarriesOut g d (install_orders d.control.current set) old mid r
      → Carries g d s e old mid r
  carried r carries =
      subst (λ (x : Mounted). Carries g d x e old mid r) same
      (subst (λ (f : Effect Mounted). Carries g d (mounted_on d (g.seen old)) f old mid r)
      effect_here carries)

  time : (r : Result Device Stop)
      → Carries g d s e old mid r
      → IsAtRest g old
      → Adds g.moment g.outcomes old mid
      (LeavesStep (g.told old) size (install_item s set).steps)
  time r carries rest =
      subst
      (λ (n : ℕ). Adds g.moment g.outcomes old mid (LeavesStep (g.told old) n (steps_of s e)))
      sized (carries.time t rest)

  some : 0 < length (install_told s set)
  some = install_long s set

  -- the disk failed, or memory was refused
  pub install_fails : {A E : Type 0} (stop : Stop) (x : E)
      → CarriesOut g d (install_orders d.control.current set) old mid (Err stop)
      → DoesItem g {A = A} size (install_item s set) old mid (Err x)
  install_fails stop x carries =
      let by = carried (Err stop) carries in
      item_fails g size (install_item s set) some old mid (by.quiet.told t) (time (Err stop) by) x

  pub install_short : CarriesOut g d (install_orders d.control.current set) old mid
      (Err (stops.Refused NoMemory))
      → LeavesShort g size (install_item s set) old mid
  install_short carries =
      let by = carried (Err (stops.Refused NoMemory)) carries in
      let among : IsAmong (steps_of s e) (g.size old) (g.seen mid) = by.among t in
      record {
        told = by.quiet.told t;
        step = (
          among.mounted,
          among.step,
          subst (λ (n : ℕ). IsIn n among.mounted (g.seen mid)) sized among.means,
        );
        settled = by.rest t;
      }

  -- a command was refused, and its line is told, whole or in part
  module _ (refusal : Refusal) (other : refusal ≡ NoMemory → ⊥)
      (carries : CarriesOut g d (install_orders d.control.current set) old mid
      (Err (stops.Refused refusal))) where
    refused : Carries g d s e old mid (Err (stops.Refused refusal))
    refused = carried (Err (stops.Refused refusal)) carries

    pub refused_told : refused_line refusal ≡ install_told s set
    refused_told =
        sym
        (refused_is (length set) (left_of (after_of s e).state.phase) e.reply refusal
        (refused.stop t other).reply)

    pub refused_reply : e.reply ≡ replies.Refused refusal
    refused_reply = (refused.stop t other).reply

    pub refused_status : reply_status (replies.Refused refusal) ≡ install_status s set
    refused_status = ap reply_status (sym (refused.stop t other).reply)

    pub install_refused : {A E : Type 0} (new : D) (r : Result A E)
        → Says g (install_told s set) mid new r
        → DoesItem g size (install_item s set) old new r
    install_refused new r says =
        item_does g size (install_item s set) some old mid (refused.quiet.told t)
        (time (Err (stops.Refused refusal)) refused) new r
        (subst (λ (n : ℕ). IsIn n (after_of s e) (g.seen mid)) sized
        (refused.stop t other).means)
        (last_step s e.later) (refused.rest t) says

  -- all are done
  module _ (next : Device)
      (carries : CarriesOut g d (install_orders d.control.current set) old mid (Ok next)) where
    done : Carries g d s e old mid (Ok next)
    done = carried (Ok next) carries

    -- the update is ready, with so many blocks left
    pub left_is : count_at next.a + count_at next.b ≡ left_of (after_of s e).state.phase
    left_is =
        let ready = installed_staged s.state.control.current set s (done.whole t) in
        left_here next (g.seen mid) ready.0 ready.1
        (ap (λ (x : Mounted). x.state.phase) (done.after t) ∙ ready.2)
        ∙ sym (ap left_of ready.2)

    pub done_told : installed_line (length set) (count_at next.a + count_at next.b)
        ≡ install_told s set
    done_told =
        ap (installed_line (length set)) left_is
        ∙ sym
        (done_is (length set) (left_of (after_of s e).state.phase) e.reply (done.whole t))

    pub done_status : reply_status replies.Done ≡ install_status s set
    done_status = ap reply_status (sym (done.whole t))

    pub install_does : {A E : Type 0} (new : D) (r : Result A E)
        → Says g (install_told s set) mid new r
        → DoesItem g size (install_item s set) old new r
    install_does new r says =
        item_does g size (install_item s set) some old mid (done.quiet.told t)
        (time (Ok next) done) new r
        (subst (λ (n : ℕ). IsIn n (after_of s e) (g.seen mid)) sized
        (device_stands next (g.size old) (g.seen mid) (done.represents t)
        ∙ ap (λ (x : Mounted). (let r : Result Mounted StartFault = Ok x in r)) (done.after t)))
        (last_step s e.later) (done.rest t) says
