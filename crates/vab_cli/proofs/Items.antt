-- Items that are done, by what was done and told for them.
use Rattle.std.proofs.Common.{◌≡◌, ◌∙◌, inl, ℕ, ◌<◌, List, [], ◌++◌, length, take}
use Rattle.std.proofs.Common.{Result, Ok, Err, refl, sym, ap, subst, arith, length-append}
use Rattle.std.specs.Prelude.{Bool, true, false, None, OnOk}
use Rattle.std.proofs.lemmas.List.{append-nil}
use Rattle.vab_disk.specs.declared.disk.Disk.{Ghosts}
use Rattle.vab_disk.specs.Disk.{Image, Outcome, Adds}
use Rattle.vab_disk.specs.Calls.{IsAtRest}
use Rattle.vab_disk.specs.Written.{same_image}
use Rattle.vab_disk.proofs.Moments.{adds_wider, adds_on}
use Rattle.vab_gate.specs.declared.gate.DiskFault.{DiskFault}
use Rattle.vab_model.specs.declared.command.Reply.{Reply}
use Rattle.vab_model.specs.Commands.{Command, Print}
use Rattle.vab_model.specs.Effects.{Found, Image_is, Refused_by, found_of, effect_map}
use Rattle.vab_model.specs.Machine.{machine_effect}
use Rattle.vab_model.specs.Effects.{Effect, print_effect, steps_of, after_of, IsOneOf}
use Rattle.vab_model.specs.Effects.{unless_refused}
use Rattle.vab_device.specs.declared.device.Device.{Device}
use Rattle.vab_device.specs.declared.fault.StartFault.{StartFault}
use Rattle.vab_device.specs.Mounted.{Mounted, mounted_on, in_state}
use Rattle.vab_device.specs.Reading.{device, IsIn, Represents}
use Rattle.vab_device.proofs.DoesLaws.{on_ok_map}
use Rattle.vab_device.proofs.ReadingLaws.{device_stands}
use Rattle.vab_device.specs.Does.{LeavesStep, Does}
use Rattle.vab_device.specs.Updates.{effect_on}
use Rattle.vab_exchanges.specs.Items.{Item}
use Rattle.vab_exchanges.specs.Runs.{LeavesItem}
use Rattle.vab_exchanges.proofs.RunLaws.{telling}
use Rattle.vab_cli.specs.Telling.{DoesItem, Says}
use Rattle.vab_session.specs.Served.{nothing_staged}
use Rattle.vab_cli.specs.Verbs.{command_item, line_item}
use Rattle.vab_model.specs.Kinds.{IsVerb}
use Rattle.vab_device.proofs.WantLaws.{verb_wants}
use Rattle.vab_update.proofs.OrderLaws.{last_step}

on_ok : {A E P : Type 0} (r : Result A E) → P → OnOk r P
on_ok (Ok x) p = p
on_ok (Err e) p = tt

-- what was said, whatever is answered then
pub says_ok : {D A B E F : Type 0} (g : Ghosts D) (bytes : List ℕ) (old new : D) (x : A) (y : B)
    → Says g {A = A} {E = E} bytes old new (Ok x)
    → Says g {A = B} {E = F} bytes old new (Ok y)
says_ok g bytes old new x y says = record {
  told = says.told;
  front = says.front;
  seen = says.seen;
  crash = says.crash;
  left = says.left;
  heard = says.heard;
  time = says.time;
}

pub says_err : {D A B E F : Type 0} (g : Ghosts D) (bytes : List ℕ) (old new : D) (x : E) (y : F)
    → Says g {A = A} {E = E} bytes old new (Err x)
    → Says g {A = B} {E = F} bytes old new (Err y)
says_err g bytes old new x y says = record {
  told = tt;
  front = says.front;
  seen = says.seen;
  crash = says.crash;
  left = says.left;
  heard = says.heard;
  time = says.time;
}

-- where the disk is this device, the one that is kept is it
pub mounted_is : (d : Device) (size : ℕ) (image : Image) (s : Mounted)
    → Represents d size image
    → IsIn size s image
    → mounted_on d image ≡ s
mounted_is d size image s represents is =
    let same : Ok (mounted_on d image) ≡ Ok s = sym (device_stands d size image represents) ∙ is in
    cc

-- a verb takes no memory
pub verb_effect : (refused : Bool) (c : Command) (m : Mounted)
    → IsVerb c
    → unless_refused refused (effect_on m None c) ≡ effect_on m None c
verb_effect false c m verb = refl
verb_effect true c m verb = rw (verb_wants m None c verb) refl

pub replied : (refused : Bool) (c : Command) (m : Mounted)
    → IsVerb c
    → (unless_refused refused (effect_on m None c)).reply ≡ (effect_on m None c).reply
replied refused c m verb = ap (λ (e : Effect Mounted). e.reply) (verb_effect refused c m verb)

-- before anything is told of an item
step_leaves : (size : ℕ) (told : List ℕ) (item : Item Mounted)
    → 0 < length item.reply
    → (o : Outcome)
    → LeavesStep told size item.steps o
    → LeavesItem (IsIn size) told item o
step_leaves size told item some o left = record {
  front = (0, left.told_so_far ∙ sym (append-nil told));
  step = (left.mounted, left.step, left.means);
  whole = λ all.
      absurd
      (omega (arith, some, ap length (sym left.told_so_far ∙ all), length-append told item.reply));
}

module _ {D : Type 0} (g : Ghosts D) (size : ℕ) where
  -- what is told of an item, with the disk in its last situation and nothing pending
  saying : {A E : Type 0} (item : Item Mounted) (told : List ℕ) (mid new : D) (r : Result A E)
      → Says g item.reply mid new r
      → g.told mid ≡ told
      → IsIn size item.last.now (g.seen mid)
      → IsOneOf item.steps item.last.now
      → IsAtRest g mid
      → Adds g.moment g.outcomes mid new (LeavesItem (IsIn size) told item)
  saying item told mid new r says same is one rest =
      adds_wider g.moment g.outcomes mid new _ _ says.time
      (telling (IsIn size) told (g.told mid) item [] item.reply [] (g.may_leave mid)
      (sym (append-nil item.reply)) (same ∙ sym (append-nil told)) one
      (λ o leaves.
      ap (device size)
      (same_image o.image (g.seen mid) (λ s. rest s (o.image s) (leaves.each_sector s)))
      ∙ is))

  still_rest : {A E : Type 0} (bytes : List ℕ) (mid new : D) (r : Result A E)
      → Says g bytes mid new r
      → IsAtRest g mid
      → IsAtRest g new
  still_rest bytes mid new r says rest = λ s b held.
      rest s b ((let crash = says.crash in crash.no_more) s b held)
      ∙ ap (λ (x : Image). x s) (sym says.seen)

  -- a line is told, and nothing else is done
  pub does_line : {A E : Type 0} (s : Mounted) (line : List ℕ) (old new : D) (r : Result A E)
      → IsIn size s (g.seen old)
      → Says g line old new r
      → DoesItem g size (line_item s line) old new r
  does_line s line old new r is says = record {
    told = says.told;
    front = says.front;
    stands = on_ok r (ap (device size) says.seen ∙ is);
    settled = λ rest. on_ok r (still_rest line old new r says rest);
    time = λ rest. saying (line_item s line) (g.told old) old new r says refl is (inl refl) rest;
  }

  -- nothing is done, and nothing told
  pub none_done : {A E : Type 0} (item : Item Mounted) (d : D) (e : E)
      → DoesItem g {A = A} size item d d (Err e)
  none_done item d e = record {
    told = tt;
    front = (0, sym (append-nil (g.told d)));
    stands = tt;
    settled = λ rest. tt;
    time = λ rest. record {
      later = omega arith;
      keeps = λ t o before there. there;
      adds = λ t o before there. inl there;
    };
  }

  -- nothing is to be told
  pub none_told : {A E : Type 0} (s : Mounted) (d : D) (x : A)
      → IsIn size s (g.seen d)
      → DoesItem g {E = E} size (line_item s []) d d (Ok x)
  none_told s d x is = record {
    told = sym (append-nil (g.told d));
    front = (0, sym (append-nil (g.told d)));
    stands = is;
    settled = λ rest. rest;
    time = λ rest. record {
      later = omega arith;
      keeps = λ t o before there. there;
      adds = λ t o before there. inl there;
    };
  }

  -- ---- what is done, and then told

  module _ (item : Item Mounted) (some : 0 < length item.reply) (old mid : D)
      (told : g.told mid ≡ g.told old)
      (time : IsAtRest g old
      → Adds g.moment g.outcomes old mid (LeavesStep (g.told old) size item.steps)) where
    doing : IsAtRest g old
        → Adds g.moment g.outcomes old mid (LeavesItem (IsIn size) (g.told old) item)
    doing rest =
        adds_wider g.moment g.outcomes old mid _ _ (time rest)
        (step_leaves size (g.told old) item some)

    -- the disk failed, or memory was refused
    pub item_fails : {A E : Type 0} (e : E) → DoesItem g {A = A} size item old mid (Err e)
    item_fails e = record {
      told = tt;
      front = (0, told ∙ sym (append-nil (g.told old)));
      stands = tt;
      settled = λ rest. tt;
      time = doing;
    }

    -- it is done, and its line is told, whole or in part
    pub item_does : {A E : Type 0} (new : D) (r : Result A E)
        → IsIn size item.last.now (g.seen mid)
        → IsOneOf item.steps item.last.now
        → (IsAtRest g old → IsAtRest g mid)
        → Says g item.reply mid new r
        → DoesItem g size item old new r
    item_does new r there one rests says = record {
      told = on_ok_map r _ _ (λ is. is ∙ ap (λ (l : List ℕ). l ++ item.reply) told) says.told;
      front = (let front = says.front in
          (front.0, front.1 ∙ ap (λ (l : List ℕ). l ++ take front.0 item.reply) told));
      stands = on_ok r (ap (device size) says.seen ∙ there);
      settled = λ rest. on_ok r (still_rest item.reply mid new r says (rests rest));
      time = λ rest.
          adds_on g.moment g.outcomes old mid new _ _ (doing rest)
          (saying item (g.told old) mid new r says told there one (rests rest))
          (λ o leaves. leaves);
    }

  -- ---- a command

  module _ (d : Device) (c : Command) (verb : IsVerb c) (W : ℕ → List ℕ → Type 0) (s : Mounted)
      (line : List ℕ) (some : 0 < length line)
      (old mid : D)
      (sized : g.size old ≡ size)
      (represents : Represents d size (g.seen old))
      (is : IsIn size s (g.seen old)) where
    same : mounted_on d (g.seen old) ≡ s
    same = mounted_is d size (g.seen old) s represents is

    command_time : {result : Result (Device × Reply) DiskFault}
        → Does g d None c W old mid result
        → g.is_modelled
        → IsAtRest g old
        → Adds g.moment g.outcomes old mid
        (LeavesStep (g.told old) size (command_item s c line).steps)
    command_time does t rest =
        subst
        (λ (n : ℕ).
        Adds g.moment g.outcomes old mid
        (LeavesStep (g.told old) n (steps_of s (effect_on s None c))))
        sized
        (subst
        (λ (x : Mounted).
        Adds g.moment g.outcomes old mid
        (LeavesStep (g.told old) (g.size old) (steps_of x (effect_on x None c))))
        same
        (subst
        (λ (e : Effect Mounted).
        Adds g.moment g.outcomes old mid
        (LeavesStep (g.told old) (g.size old) (steps_of (mounted_on d (g.seen old)) e)))
        (verb_effect does.refused c (mounted_on d (g.seen old)) verb)
        (does.time t rest)))

    -- the disk failed
    pub command_fails : {A E : Type 0} (fault : DiskFault) (e : E)
        → Does g d None c W old mid (Err fault)
        → g.is_modelled
        → DoesItem g {A = A} size (command_item s c line) old mid (Err e)
    command_fails fault e does t =
        item_fails (command_item s c line) some old mid (does.quiet.told t) (command_time does t) e

    -- it is done, and its line is told, whole or in part
    pub command_does : {A E : Type 0} (d' : Device) (reply : Reply) (new : D) (r : Result A E)
        → Does g d None c W old mid (Ok (d', reply))
        → g.is_modelled
        → Says g line mid new r
        → DoesItem g size (command_item s c line) old new r
    command_does d' reply new r does t says =
        item_does (command_item s c line) some old mid (does.quiet.told t) (command_time does t)
        new r there (last_step s (effect_on s None c).later) (does.rest t) says
      where
        there : IsIn size (after_of s (effect_on s None c)) (g.seen mid)
        there =
            device_stands d' size (g.seen mid)
            (subst (λ (n : ℕ). Represents d' n (g.seen mid)) sized (does.represents t))
            ∙ ap Ok (does.after t)
            ∙ ap
            (λ (e : Effect Mounted).
            (let r : Result Mounted StartFault = Ok (after_of (mounted_on d (g.seen old)) e) in r))
            (verb_effect does.refused c (mounted_on d (g.seen old)) verb)
            ∙ ap
            (λ (x : Mounted).
            (let r : Result Mounted StartFault = Ok (after_of x (effect_on x None c)) in r))
            same

-- an image's bytes, or why there are none, are told as a line is: nothing changes
pub print_item : (s : Mounted) (name told : List ℕ)
    → command_item s (Print name) told ≡ line_item s told
unfolding machine_effect
print_item s name told = go (found_of s.state name) where
  go : (f : Found)
      → (let item : Item Mounted = record {
        reply = told;
        steps = steps_of s (effect_map (in_state s) (print_effect name f));
        last = nothing_staged (after_of s (effect_map (in_state s) (print_effect name f)));
      } in item ≡ line_item s told)
  go (Image_is image) = refl
  go (Refused_by refusal) = refl

-- so the last of its steps is the first
pub print_last : (size : ℕ) (s : Mounted) (name told : List ℕ) (image : Image)
    → IsIn size s image
    → IsIn size (command_item s (Print name) told).last.now image
print_last size s name told image is =
    subst (λ (i : Item Mounted). IsIn size i.last.now image) (sym (print_item s name told)) is
