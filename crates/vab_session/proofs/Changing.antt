-- What a session does to the sectors of a disk.
use Rattle.std.proofs.Common.{◌≡◌, ◌∙◌, ◌++◌, ℕ, List, [], ◌∷◌, false, ap, sym, subst}
use Rattle.std.specs.Prelude.{Result, Ok, Err, IfOk, OnOk}
use Rattle.std.specs.List.{flat_map}
use Rattle.vab_disk.specs.Disk.{Image}
use Rattle.vab_disk.specs.Calls.{Changes}
use Rattle.vab_disk.specs.declared.disk.Disk.{Ghosts}
use Rattle.vab_disk.proofs.CallLaws.{changes_hearing, changes_then}
use Rattle.vab_device.specs.declared.device.Device.{Device}
use Rattle.vab_model.specs.Commands.{Command}
use Rattle.vab_device.specs.Does.{Follows, KeepsSource}
use Rattle.vab_model.specs.Kinds.{changes_source}
use Rattle.vab_device.specs.Mounted.{Mounted}
use Rattle.vab_device.specs.Reading.{IsIn, Represents}
use Rattle.vab_commands.specs.Touched.{IsOfCommands, IsOfAll, ChangesBy, FollowsBy}
use Rattle.vab_commands.proofs.ChangeLaws.{changes_by_then}
use Rattle.vab_fbproto.specs.Requests.{request_of}
use Rattle.vab_exchanges.specs.Hearing.{Listens}
use Rattle.vab_exchanges.specs.Items.{Kept}
use Rattle.vab_exchanges.specs.Session.{Exchange, packet, spelled}
use Rattle.vab_exchanges.proofs.Progress.{AreDone, Progress}
use Rattle.vab_session.specs.Sparing.{AreExchanges, AsksNoSource, asks_source}
use Rattle.vab_session.specs.Responses.{machine}

-- what holds whatever comes holds where it is done
pub on_ok : {A E : Type 0} (r : Result A E) (P : Type 0) → P → OnOk r P
on_ok (Ok x) P is = is
on_ok (Err e) P is = tt

pub changes_listening : {D : Type 0} (g : Ghosts D) (W : ℕ → List ℕ → Type 0)
    (bytes : List ℕ) (TooFew : List ℕ → Type 0) (old new : D)
    → Listens g bytes TooFew old new
    → Changes g W old new
changes_listening g W bytes TooFew old new listens =
    changes_hearing g W old new listens.size listens.seen listens.crash listens.time

-- what was changed before a packet was heard
pub changes_heard : {D : Type 0} (g : Ghosts D) (d : Device) (P : Type 0)
    (bytes : List ℕ) (TooFew : List ℕ → Type 0) (old mid now : D)
    → ChangesBy g d P old mid
    → Listens g bytes TooFew mid now
    → ChangesBy g d P old now
changes_heard g d P bytes TooFew old mid now first listens = record {
  all = changes_then g _ old mid now first.all (changes_listening g _ bytes TooFew mid now listens);
  plain = λ p.
      changes_then g _ old mid now (first.plain p)
      (changes_listening g _ bytes TooFew mid now listens);
}

-- whatever holds, where nothing is changed
pub changes_still : {D : Type 0} (g : Ghosts D) (d : Device) (P : Type 0) (old new : D)
    → ((W : ℕ → List ℕ → Type 0) → Changes g W old new)
    → ChangesBy g d P old new
changes_still g d P old new still = record { all = still _; plain = λ p. still _ }

-- and behind it nothing is changed
pub changes_told : {D : Type 0} (g : Ghosts D) (d : Device) (P : Type 0) (old mid new : D)
    → ChangesBy g d P old mid
    → ((W : ℕ → List ℕ → Type 0) → Changes g W mid new)
    → ChangesBy g d P old new
changes_told g d P old mid new first still = record {
  all = changes_then g _ old mid new first.all (still _);
  plain = λ p. changes_then g _ old mid new (first.plain p) (still _);
}

-- and before it nothing was changed
pub changes_behind : {D : Type 0} (g : Ghosts D) (d : Device) (P Q : Type 0) (old mid new : D)
    → g.seen mid ≡ g.seen old
    → ((W : ℕ → List ℕ → Type 0) → Changes g W old mid)
    → (Q → P)
    → ChangesBy g d P mid new
    → ChangesBy g d Q old new
changes_behind g d P Q old mid new seen still less second = record {
  all =
      changes_then g _ old mid new (still _)
      (subst (λ (image : Image). Changes g (IsOfAll d (image 4)) mid new) seen second.all);
  plain = λ q.
      changes_then g _ old mid new (still _)
      (subst (λ (image : Image). Changes g (IsOfCommands d (image 4)) mid new) seen
      (second.plain (less q)));
}

-- ---- the packets that were heard

-- the exchanges that are done are exchanges
are_exchanges : (done : List Exchange) → AreDone done → AreExchanges done
are_exchanges [] are = tt
are_exchanges (s ∷ ss) are = (are.0, are_exchanges ss are.2)

-- where no packet asks for a merge, that behind the exchanges that are done doesn't
pub asks_none : {D : Type 0} (turns size : ℕ) (g : Ghosts D) (bytes beyond : List ℕ)
    (first : Kept Mounted)
    (told : List ℕ) (old now : D) (left : List ℕ) (kept : Kept Mounted)
    → Progress (machine turns) (IsIn size) g bytes beyond first told old now left [] kept
    → AsksNoSource bytes
    → (command after : List ℕ)
    → left ≡ packet command ++ after
    → asks_source (request_of command) ≡ false
asks_none turns size g bytes beyond first told old now left kept so_far none command after is =
    none so_far.done command after (are_exchanges so_far.done so_far.are)
    (so_far.is ∙ ap (λ (l : List ℕ). flat_map spelled so_far.done ++ l) is)

-- a packet was heard, and answered on the device of the disk
pub changes_answered : {D : Type 0} (g : Ghosts D)
    (size : ℕ)
    (d d' : Device)
    (P Q : Type 0)
    (bytes : List ℕ)
    (TooFew : List ℕ → Type 0)
    (old mid now new : D)
    → g.is_modelled
    → Represents d size (g.seen old)
    → Represents d' size (g.seen mid)
    → (P → Q)
    → FollowsBy d P d'
    → ChangesBy g d P old mid
    → Listens g bytes TooFew mid now
    → ChangesBy g d' Q now new
    → ChangesBy g d P old new
changes_answered g size d d' P Q bytes TooFew old mid now new t was is less follows first listens
    second =
    changes_by_then g t size d d' P Q old now new was
    (subst (Represents d' size) (sym (listens.seen t)) is) less follows
    (changes_heard g d P bytes TooFew old mid now first listens)
    second

-- ---- answers

pub if_ok : {A E : Type 0} (P Q : A → Type 0) (r : Result A E)
    → ((x : A) → P x → Q x)
    → IfOk r P
    → IfOk r Q
if_ok P Q (Ok x) on is = on x is
if_ok P Q (Err e) on is = is

-- what keeps the source follows
pub follows_kept : (d : Device) (P : Type 0) (next : Device)
    → KeepsSource d next
    → FollowsBy d P next
follows_kept d P next keeps = record { geometry = keeps.geometry; source = λ p. keeps }

pub follows_done : (d : Device) (command : Command) (next : Device)
    → Follows d command next
    → FollowsBy d (changes_source command ≡ false) next
follows_done d command next follows = record {
  geometry = follows.geometry;
  source = follows.source;
}
