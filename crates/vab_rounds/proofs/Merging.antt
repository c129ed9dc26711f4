-- A merge goes on, however often it is cut.
use Rattle.std.proofs.Common.{◌≡◌, ◌⊎◌, ◌∙◌, inl, inr, ℕ, zero, suc, ◌+◌, ◌<◌, ◌≤◌, Bool, true}
use Rattle.std.proofs.Common.{false, cond}
use Rattle.std.proofs.Common.{List, [], ◌∷◌, ◌++◌, take, codes, Option, Some, None, Result}
use Rattle.std.proofs.Common.{Ok, Err}
use Rattle.std.proofs.Common.{refl, sym, subst, arith, add-zero}
use Rattle.std.specs.Prelude.{◌&&◌, nat_lt, nat_le, ◌^◌, is_some}
use Rattle.vab_space.specs.declared.Chunk.{Chunk}
use Rattle.vab_bootctl.specs.declared.slots.Control.{Control}
use Rattle.vab_bootctl.specs.Boot.{activated_of}
use Rattle.vab_model.specs.declared.state.Image.{Image as ImageOfSlot}
use Rattle.vab_model.specs.declared.state.Phase.{Phase}
use Rattle.vab_model.specs.declared.state.Phase.TheVariants.{Idle, Installing, Staged, Merging}
use Rattle.vab_model.specs.Commands.{Command, SetActive, Boot, Mark, Print, Digest, Create}
use Rattle.vab_model.specs.Commands.{Resize, Delete, Snapshot, Flash, Cancel, BeginMerge}
use Rattle.vab_model.specs.Commands.{Merge, UpdateSuper, Overlay, OverlayWrite, OverlayDiscard}
use Rattle.vab_model.specs.State.{images_at}
use Rattle.vab_model.specs.Effects.{Effect, Found, Image_is, Refused_by, found_of, print_effect}
use Rattle.vab_model.specs.Effects.{digest_effect, active_effect, effect_map, IsOneOf}
use Rattle.vab_model.specs.Machine.{machine_effect}
use Rattle.vab_model.specs.Effects.{last_of}
use Rattle.vab_model.specs.Kinds.{is_of_installation, turns_of}
use Rattle.vab_model.specs.Machine.{turns as machine_turns}
use Rattle.vab_device.proofs.WantLaws.{verb_wants}
use Rattle.vab_device.specs.Mounted.{Mounted, in_state}
use Rattle.vab_device.specs.Flashed.{flash_effect}
use Rattle.vab_device.specs.Updates.{effect_on, EditOf, Guard, edit_effect, no_guard}
use Rattle.vab_device.specs.Updates.{settled_guard, store_guard, create_edit, resize_edit}
use Rattle.vab_device.specs.Updates.{delete_edit, snapshot_edit, cancel_effect}
use Rattle.vab_device.specs.Updates.{begin_merge_effect, merge_effect, turns, merged_to, wiped}
use Rattle.vab_device.specs.Updates.{update_super}
use Rattle.vab_device.proofs.FlashedLaws.{flash_by_blocks}
use Rattle.vab_fbproto.specs.Requests.{Asked, Getvar, Download, Do, MergeAll, BootAndEnd}
use Rattle.vab_fbproto.specs.Requests.{request_of}
use Rattle.vab_fbproto.specs.declared.request.BadCommand.{BadCommand}
use Rattle.vab_exchanges.specs.Session.{Exchange, packet, most_data}
use Rattle.vab_exchanges.specs.Items.{Response, Kept, Item, item_still, item_staged}
use Rattle.vab_exchanges.specs.Items.{item_download, item_done, item_asked, item_of, item_open}
use Rattle.vab_exchanges.specs.Items.{items_of, unless_refused, no_memory, later_of, behind, passed}
use Rattle.vab_exchanges.specs.Items.{item_behind, open_behind, kept_after, closing_of}
use Rattle.vab_exchanges.proofs.RunLaws.{item_begins, open_begins}
use Rattle.vab_exchanges.specs.Runs.{steps_at}
use Rattle.vab_session.specs.Alone.{IsAlone, IsReady, IsWiped, IsEnded, Finds}
use Rattle.vab_session.specs.Responses.{response, left_of, turns_between, machine}
use Rattle.vab_session.specs.Served.{nothing_staged}
use Rattle.vab_session.proofs.AloneLaws.{AreAlone, alone_effect, last_alone}
use Rattle.vab_session.proofs.OverlayLaws.{if_either, overlay_makes, write_makes, discard_makes}
use Rattle.vab_session.proofs.StandLaws as stand
use Rattle.vab_session.proofs.WipeLaws.{wipe_comes, wiped_stays}
use Rattle.vab_rounds.specs.Rounds.{Run, Serves, Carries, Installs, Tells, Lives, items_in}
use Rattle.vab_rounds.specs.Rounds.{closing_in}
use Rattle.vab_rounds.specs.Alone.{reached, SomeEnd, SomeWiped}
use Rattle.vab_rounds.specs.Folds.{Cut, after_cut, folded}
use Rattle.vab_rounds.specs.Merges.{asks_update, AskNoUpdate, BeginsNone}
use Rattle.vab_rounds.specs.Merges.{BeginNone, turns_before, turns_asked, turns_in, turns_by}
use Rattle.vab_rounds.specs.Merges.{turns_by_all, IsMerged}
use Rattle.vab_rounds.proofs.Folding.{cut_steps, reached_steps}
use Rattle.vab_rounds.proofs.Lasting.{lasts}
use Rattle.vab_device.proofs.HeldLaws.{keep_makes}
use Rattle.vab_model.specs.Commands.{Keep}

-- A merge has ended, or so many are left that those that were asked for fit beside them.
abbrev pub IsDue : (left asked : ℕ) → Phase → Type 0
IsDue left asked Idle = Unit {0}
IsDue left asked (Installing source plan) = ⊥
IsDue left asked (Staged source still) = ⊥
IsDue left asked (Merging target still) = still + asked ≤ left

module _ (left : ℕ) where
  abbrev pub Due : ℕ → Mounted → Type 0
  Due asked m = IsDue left asked m.state.phase

  abbrev pub AreDue : ℕ → List Mounted → Type 0
  AreDue asked ms = (x : Mounted) → IsOneOf ms x → Due asked x

  none : (asked : ℕ) → AreDue asked []
  none asked x is = absurd is

  more : (asked : ℕ) (m : Mounted) (ms : List Mounted)
      → Due asked m
      → AreDue asked ms
      → AreDue asked (m ∷ ms)
  more asked m ms is are x (inl same) = subst (Due asked) (sym same) is
  more asked m ms is are x (inr later) = are x later

  one : (asked : ℕ) (m : Mounted) → Due asked m → AreDue asked (m ∷ [])
  one asked m is = more asked m [] is (none asked)

  last_due : (asked : ℕ) (m : Mounted) (ms : List Mounted)
      → Due asked m
      → AreDue asked ms
      → Due asked (last_of m ms)
  last_due asked m [] is are = is
  last_due asked m (x ∷ xs) is are =
      last_due asked x xs (are x (inl refl)) (λ y later. are y (inr later))

  -- as many were asked for
  counted : (n k : ℕ) (m : Mounted) → n ≡ k → Due n m → Due k m
  counted n k m same is = subst (λ (j : ℕ). Due j m) same is

  all_counted : (n k : ℕ) (ms : List Mounted) → n ≡ k → AreDue n ms → AreDue k ms
  all_counted n k ms same are = subst (λ (j : ℕ). AreDue j ms) same are

  -- ---- turns

  turned : (asked blocks : ℕ) (m : Mounted) (target still : ℕ)
      → still + asked ≤ left
      → AreDue asked (turns blocks m target still)
  unfolding machine_turns
  turned asked zero m target still is = none asked
  turned asked (suc n) m target zero is = one asked _ tt
  turned asked (suc n) m target (suc still) is =
      more asked _ _ (omega (arith, is)) (turned asked n m target still (omega (arith, is)))

  turned_last : (asked blocks : ℕ) (m y : Mounted) (target still : ℕ)
      → y.state.phase ≡ Merging target still
      → still + asked ≤ left
      → Due (asked + blocks) (last_of y (turns blocks m target still))
  unfolding machine_turns
  turned_last asked zero m y target still phase is =
      counted asked (asked + 0) y (sym (add-zero asked))
      (subst (IsDue left asked) (sym phase) is)
  turned_last asked (suc n) m y target zero phase is = tt
  turned_last asked (suc n) m y target (suc still) phase is =
      let next : Mounted = merged_to m target still in
      let same : asked + 1 + n ≡ asked + suc n = omega arith in
      counted (asked + 1 + n) (asked + suc n) (last_of next (turns n m target still)) same
      (turned_last (asked + 1) n m next target still refl (omega (arith, is)))

  merges : (asked : ℕ) (m : Mounted) (blocks : ℕ) (phase : Phase)
      → IsDue left asked phase
      → AreDue asked (merge_effect m blocks phase).later
  merges asked m blocks Idle is = none asked
  merges asked m blocks (Installing source plan) is = absurd is
  merges asked m blocks (Staged source still) is = absurd is
  merges asked m blocks (Merging target still) is = turned asked blocks m target still is

  merges_last : (asked : ℕ) (m : Mounted) (blocks : ℕ) (phase : Phase)
      → m.state.phase ≡ phase
      → IsDue left asked phase
      → Due (asked + blocks) (last_of m (merge_effect m blocks phase).later)
  merges_last asked m blocks Idle at is =
      subst (IsDue left (asked + blocks)) (sym at) tt
  merges_last asked m blocks (Installing source plan) at is = absurd is
  merges_last asked m blocks (Staged source still) at is = absurd is
  merges_last asked m blocks (Merging target still) at is =
      turned_last asked blocks m m target still at is

  -- ---- other commands

  edits : (asked : ℕ) (m : Mounted) (guard : Guard) (edit : EditOf) (phase : Phase)
      → IsDue left asked phase
      → AreDue asked (edit_effect m guard edit phase).later
  edits asked m guard edit Idle is = none asked
  edits asked m guard edit (Installing source plan) is = absurd is
  edits asked m guard edit (Staged source still) is = absurd is
  edits asked m guard edit (Merging target still) is = none asked

  flashes : (asked : ℕ) (m : Mounted) (staged : Option (List ℕ)) (name : List ℕ) (k : Chunk)
      (phase : Phase)
      → IsDue left asked phase
      → AreDue asked (flash_effect m staged name k phase).later
  flashes asked m staged name k Idle is = none asked
  flashes asked m staged name k (Installing source plan) is = absurd is
  flashes asked m staged name k (Staged source still) is = absurd is
  flashes asked m staged name k (Merging target still) is = none asked

  cancels : (asked : ℕ) (m : Mounted) (phase : Phase)
      → IsDue left asked phase
      → AreDue asked (cancel_effect m phase).later
  cancels asked m Idle is = none asked
  cancels asked m (Installing source plan) is = absurd is
  cancels asked m (Staged source still) is = absurd is
  cancels asked m (Merging target still) is = none asked

  merge_begins : (asked : ℕ) (m : Mounted) (phase : Phase)
      → IsDue left asked phase
      → AreDue asked (begin_merge_effect m phase).later
  merge_begins asked m Idle is = none asked
  merge_begins asked m (Installing source plan) is = absurd is
  merge_begins asked m (Staged source still) is = absurd is
  merge_begins asked m (Merging target still) is = none asked

  activates : (asked : ℕ) (m : Mounted) (has : Bool) (c : Control)
      → Due asked m
      → AreDue asked (effect_map (in_state m) (active_effect has m.state c)).later
  activates asked m true c is = one asked _ is
  activates asked m false c is = none asked

  prints : (asked : ℕ) (m : Mounted) (name : List ℕ) (f : Found)
      → AreDue asked (effect_map (in_state m) (print_effect name f)).later
  prints asked m name (Image_is image) = none asked
  prints asked m name (Refused_by refusal) = none asked

  digests : (asked : ℕ) (m : Mounted) (f : Found)
      → AreDue asked (effect_map (in_state m) (digest_effect f)).later
  digests asked m (Image_is image) = none asked
  digests asked m (Refused_by refusal) = none asked

  -- a wipe is refused while it goes on, and changes the phase nowhere
  wipes : (asked : ℕ) (m : Mounted) (staged : Option (List ℕ))
      → Due asked m
      → AreDue asked (effect_on m staged UpdateSuper).later
  wipes asked m staged is =
      let slot : ℕ = m.state.control.current in
      if_either (λ e. AreDue asked e.later) m.state.overlay
      (update_super m slot staged m.state.phase) (none asked)
      (elim (wipe_comes m slot staged m.state.phase) [
        | inl refused ↦ subst (AreDue asked) (sym refused.none) (none asked)
        | inr done ↦
            subst (AreDue asked) (sym done.one)
            (one asked (wiped m slot done.image)
            (subst (IsDue left asked) (sym (wiped_stays m.state done.image slot).phase) is))
      ])

  pub command_steps : (asked : ℕ) (m : Mounted) (staged : Option (List ℕ)) (c : Command)
      → is_of_installation c ≡ false
      → Due asked m
      → AreDue asked (effect_on m staged c).later
  unfolding machine_effect
  command_steps asked m staged (SetActive n) other is =
      activates asked m (is_some (images_at m.state n)) (activated_of m.state.control n) is
  command_steps asked m staged Boot other is = one asked _ is
  command_steps asked m staged Mark other is = one asked _ is
  command_steps asked m staged (Print name) other is =
      prints asked m name (found_of m.state name)
  command_steps asked m staged (Digest name) other is = digests asked m (found_of m.state name)
  command_steps asked m staged (Create name size) other is =
      edits asked m no_guard (create_edit name size) m.state.phase is
  command_steps asked m staged (Resize name size) other is =
      edits asked m (settled_guard (nat_le size (2 ^ 40)) name) (resize_edit name size)
      m.state.phase is
  command_steps asked m staged (Delete name) other is =
      edits asked m (settled_guard true name) (delete_edit name) m.state.phase is
  command_steps asked m staged (Snapshot name size) other is =
      edits asked m store_guard (snapshot_edit name size) m.state.phase is
  command_steps asked m staged (Flash name chunk) other is =
      subst (λ (e : Effect Mounted). AreDue asked e.later)
      (sym (flash_by_blocks m staged name chunk))
      (flashes asked m staged name chunk m.state.phase is)
  command_steps asked m staged (Keep name) other is =
      keep_makes m (λ x. AreDue asked x.later) (λ r. none asked) (λ ps. one asked _ is) staged name
  command_steps asked m staged Cancel other is = cancels asked m m.state.phase is
  command_steps asked m staged BeginMerge other is = merge_begins asked m m.state.phase is
  command_steps asked m staged (Merge blocks) other is = merges asked m blocks m.state.phase is
  command_steps asked m staged UpdateSuper other is = wipes asked m staged is
  command_steps asked m staged (Overlay name size) other is =
      overlay_makes m (AreDue asked) (none asked) (λ o. one asked _ is) staged name size
  command_steps asked m staged (OverlayWrite block) other is =
      write_makes m (AreDue asked) (none asked) (λ o. one asked _ is) staged block
  command_steps asked m staged OverlayDiscard other is =
      discard_makes m (AreDue asked) (none asked) (λ o. one asked _ is) staged
  command_steps asked m staged _ other is = absurd cc

  -- a command that asks for no turn
  asks_none : (asked n : ℕ) (m : Mounted) (staged : Option (List ℕ)) (c : Command)
      → n ≡ 0
      → is_of_installation c ≡ false
      → Due asked m
      → Due (asked + n) (last_of m (effect_on m staged c).later)
  asks_none asked n m staged c zeroed other is =
      let later : List Mounted = (effect_on m staged c).later in
      counted asked (asked + n) (last_of m later) (omega (arith, zeroed))
      (last_due asked m later is (command_steps asked m staged c other is))

  pub command_last : (asked : ℕ) (m : Mounted) (staged : Option (List ℕ)) (c : Command)
      → is_of_installation c ≡ false
      → Due asked m
      → Due (asked + turns_of c) (last_of m (effect_on m staged c).later)
  command_last asked m staged (Merge blocks) other is =
      merges_last asked m blocks m.state.phase refl is
  command_last asked m staged c other is = asks_none asked (turns_of c) m staged c refl other is

  -- ---- packets

  response_steps : (asked : ℕ) (m : Mounted) (staged : Option (List ℕ))
      (packet : Result Asked BadCommand)
      → asks_update packet ≡ false
      → Due asked m
      → AreDue asked (response m staged packet).later
  response_steps asked m staged (Ok (Getvar variable)) other is = none asked
  response_steps asked m staged (Ok (Download size)) other is = none asked
  response_steps asked m staged (Ok (Do c)) other is = command_steps asked m staged c other is
  response_steps asked m staged (Ok MergeAll) other is =
      command_steps asked m staged (Merge (left_of m.state.phase + 1)) refl is
  response_steps asked m staged (Ok BootAndEnd) other is =
      command_steps asked m staged Boot refl is
  response_steps asked m staged (Err bad) other is = none asked

  response_last : (asked : ℕ) (m : Mounted) (staged : Option (List ℕ))
      (packet : Result Asked BadCommand)
      → asks_update packet ≡ false
      → Due asked m
      → Due (asked + turns_asked m.state.phase packet)
      (last_of m (response m staged packet).later)
  response_last asked m staged (Ok (Getvar variable)) other is =
      counted asked (asked + 0) m (sym (add-zero asked)) is
  response_last asked m staged (Ok (Download size)) other is =
      counted asked (asked + 0) m (sym (add-zero asked)) is
  response_last asked m staged (Ok (Do c)) other is = command_last asked m staged c other is
  response_last asked m staged (Ok MergeAll) other is =
      command_last asked m staged (Merge (left_of m.state.phase + 1)) refl is
  response_last asked m staged (Ok BootAndEnd) other is =
      command_last asked m staged Boot refl is
  response_last asked m staged (Err bad) other is =
      counted asked (asked + 0) m (sym (add-zero asked)) is

  -- what may want memory asks for no turn
  takes_none : (m : Mounted) (staged : Option (List ℕ)) (c : Command)
      → (effect_on m staged c).wants ≡ true
      → turns_of c ≡ 0
  takes_none m staged (Merge blocks) wants =
      absurd (let no : false ≡ true = sym (verb_wants m staged (Merge blocks) refl) ∙ wants in cc)
  takes_none m staged _ wants = refl

  wants_none : (m : Mounted) (staged : Option (List ℕ)) (packet : Result Asked BadCommand)
      → (response m staged packet).may_want ≡ true
      → turns_asked m.state.phase packet ≡ 0
  wants_none m staged (Ok (Getvar variable)) wants = refl
  wants_none m staged (Ok (Download size)) wants = refl
  wants_none m staged (Ok (Do c)) wants = takes_none m staged c wants
  wants_none m staged (Ok MergeAll) wants =
      let all : Command = Merge (left_of m.state.phase + 1) in
      absurd (let no : false ≡ true = sym (verb_wants m staged all refl) ∙ wants in cc)
  wants_none m staged (Ok BootAndEnd) wants = refl
  wants_none m staged (Err bad) wants = refl

  unless_steps : (asked : ℕ) (refused : Bool) (e : Response Mounted)
      → AreDue asked e.later
      → AreDue asked (unless_refused refused e).later
  unless_steps asked false e are = are
  unless_steps asked true e are = by_want e.may_want
    where
      by_want : (b : Bool) → AreDue asked (cond b no_memory e).later
      by_want true = none asked
      by_want false = are

  unless_last : (asked n : ℕ) (m : Mounted) (refused : Bool) (e : Response Mounted)
      → (e.may_want ≡ true → n ≡ 0)
      → Due asked m
      → Due (asked + n) (last_of m e.later)
      → Due (asked + n) (last_of m (unless_refused refused e).later)
  unless_last asked n m false e free is last = last
  unless_last asked n m true e free is last = by_want e.may_want free
    where
      by_want : (b : Bool)
          → (b ≡ true → n ≡ 0)
          → Due (asked + n) (last_of m (cond b no_memory e).later)
      by_want true free =
          let zeroed : n ≡ 0 = free refl in
          counted asked (asked + n) m (omega (arith, zeroed)) is
      by_want false free = last

  -- ---- items

  -- each step of an item, and what is kept after it, by which so many more were asked for
  pub record IsDueIn (asked n : ℕ) (item : Item Mounted) : Type 0 where
    pub steps : AreDue asked item.steps
    pub last : Due (asked + n) item.last.now

  still_due : (asked : ℕ) (k : Kept Mounted) (told : List ℕ)
      → Due asked k.now
      → IsDueIn asked 0 (item_still k told)
  still_due asked k told is = record {
    steps = one asked k.now is;
    last = counted asked (asked + 0) k.now (sym (add-zero asked)) is;
  }

  either_due : (asked n : ℕ) (b : Bool) (i j : Item Mounted)
      → IsDueIn asked n i
      → IsDueIn asked n j
      → IsDueIn asked n (cond b i j)
  either_due asked n true i j is other = is
  either_due asked n false i j is other = other

  downloaded : (asked : ℕ) (k : Kept Mounted) (size : ℕ) (refused : Bool) (parts : List (List ℕ))
      → Due asked k.now
      → IsDueIn asked 0 (item_download k size refused parts)
  downloaded asked k size refused parts is =
      let large : List ℕ = packet (codes "FAILtoo large") in
      let wanting : List ℕ = packet (codes "FAILout of memory") in
      let is_refused : Bool = refused && nat_lt 0 size in
      let whole : Item Mounted = item_staged k size parts in
      either_due asked 0 (nat_lt most_data size)
      (item_still k large)
      (cond is_refused (item_still k wanting) whole)
      (still_due asked k large is)
      (either_due asked 0 is_refused (item_still k wanting) whole
      (still_due asked k wanting is)
      (record {
        steps = one asked k.now is;
        last = counted asked (asked + 0) k.now (sym (add-zero asked)) is;
      }))

  done_due : (asked : ℕ) (k : Kept Mounted) (refused : Bool) (asks : Result Asked BadCommand)
      → asks_update asks ≡ false
      → Due asked k.now
      → IsDueIn asked (turns_asked k.now.state.phase asks) (item_done response k refused asks)
  done_due asked k refused asks other is =
      let e : Response Mounted = response k.now k.staged asks in
      let later : List Mounted = (unless_refused refused e).later in
      record {
        steps = more asked k.now later is
            (unless_steps asked refused e (response_steps asked k.now k.staged asks other is));
        last = unless_last asked (turns_asked k.now.state.phase asks) k.now refused e
            (wants_none k.now k.staged asks) is
            (response_last asked k.now k.staged asks other is);
      }

  asked_due : (asked : ℕ) (k : Kept Mounted) (refused : Bool) (parts : List (List ℕ))
      (asks : Result Asked BadCommand)
      → asks_update asks ≡ false
      → Due asked k.now
      → IsDueIn asked (turns_asked k.now.state.phase asks)
      (item_asked response k refused parts asks)
  asked_due asked k refused parts (Ok (Download size)) other is =
      downloaded asked k size refused parts is
  asked_due asked k refused parts (Ok BootAndEnd) other is =
      done_due asked k refused (Ok BootAndEnd) other is
  asked_due asked k refused parts (Ok MergeAll) other is =
      done_due asked k refused (Ok MergeAll) other is
  asked_due asked k refused parts (Ok (Getvar variable)) other is =
      done_due asked k refused (Ok (Getvar variable)) other is
  asked_due asked k refused parts (Ok (Do command)) other is =
      done_due asked k refused (Ok (Do command)) other is
  asked_due asked k refused parts (Err bad) other is =
      done_due asked k refused (Err bad) other is

  pub exchange_due : (asked : ℕ) (k : Kept Mounted) (s : Exchange)
      → asks_update (request_of s.command) ≡ false
      → Due asked k.now
      → IsDueIn asked (turns_asked k.now.state.phase (request_of s.command))
      (item_of response k s)
  unfolding item_of
  exchange_due asked k s other is =
      asked_due asked k s.refused s.parts (request_of s.command) other is

  open_due : (asked : ℕ) (k : Kept Mounted) (command : List ℕ)
      → Due asked k.now
      → IsDueIn asked 0 (item_open response k command)
  unfolding item_open
  open_due asked k command is = still_due asked k _ is

  -- ---- turns between two packets

  pub less_due : (asked n : ℕ) (phase : Phase) → IsDue left (asked + n) phase
      → IsDue left asked phase
  less_due asked n Idle is = tt
  less_due asked n (Installing source plan) is = absurd is
  less_due asked n (Staged source still) is = absurd is
  less_due asked n (Merging target still) is = omega (arith, is)

  pub before_last : (asked turns : ℕ) (m : Mounted) (phase : Phase)
      → m.state.phase ≡ phase
      → IsDue left asked phase
      → Due (asked + turns_before turns phase) (last_of m (merge_effect m turns phase).later)
  before_last asked turns m Idle at is = subst (IsDue left (asked + 0)) (sym at) tt
  before_last asked turns m (Installing source plan) at is = absurd is
  before_last asked turns m (Staged source still) at is = absurd is
  before_last asked turns m (Merging target still) at is =
      merges_last asked m turns (Merging target still) at is

  -- an item with the turns in front of it
  behind_due : (asked turns t : ℕ) (k : Kept Mounted) (i : Item Mounted)
      → i.steps ≡ (passed (machine turns) k).now ∷ later_of i.steps
      → Due asked k.now
      → IsDueIn (asked + turns_before turns k.now.state.phase) t i
      → IsDueIn asked (turns_before turns k.now.state.phase + t)
      (behind k.now (turns_between turns k.now) i)
  behind_due asked turns t k i begins is due =
      let b : ℕ = turns_before turns k.now.state.phase in
      let front : List Mounted = turns_between turns k.now in
      let later : AreDue asked (later_of i.steps) = λ x at.
      less_due asked b x.state.phase
      (due.steps x (subst (λ (l : List Mounted). IsOneOf l x) (sym begins) (inr at))) in
      let same : asked + b + t ≡ asked + (b + t) = omega arith in
      record {
        steps = more asked k.now (front ++ later_of i.steps) is
            (both asked front (later_of i.steps) (merges asked k.now turns k.now.state.phase is)
            later);
        last = counted (asked + b + t) (asked + (b + t)) i.last.now same due.last;
      }
    where
      both : (n : ℕ) (xs ys : List Mounted) → AreDue n xs → AreDue n ys → AreDue n (xs ++ ys)
      both n [] ys are others = others
      both n (x ∷ xs) ys are others =
          more n x (xs ++ ys) (are x (inl refl)) (both n xs ys (λ y at. are y (inr at)) others)

  exchange_behind : (asked turns : ℕ) (k : Kept Mounted) (s : Exchange)
      → asks_update (request_of s.command) ≡ false
      → Due asked k.now
      → IsDueIn asked
      (turns_before turns k.now.state.phase
      + turns_asked (passed (machine turns) k).now.state.phase (request_of s.command))
      (item_behind (machine turns) k s)
  exchange_behind asked turns k s other is =
      let next : Kept Mounted = passed (machine turns) k in
      behind_due asked turns (turns_asked next.now.state.phase (request_of s.command)) k
      (item_of response next s) (item_begins response next s) is
      (exchange_due (asked + turns_before turns k.now.state.phase) next s other
      (before_last asked turns k.now k.now.state.phase refl is))

  open_behind_due : (asked turns : ℕ) (k : Kept Mounted) (command : List ℕ)
      → Due asked k.now
      → IsDueIn asked (turns_before turns k.now.state.phase + 0)
      (open_behind (machine turns) k command)
  open_behind_due asked turns k command is =
      let next : Kept Mounted = passed (machine turns) k in
      behind_due asked turns 0 k (item_open response next command)
      (open_begins response next command) is
      (open_due (asked + turns_before turns k.now.state.phase) next command
      (before_last asked turns k.now k.now.state.phase refl is))

  -- ---- sessions

  closing_due : (asked turns : ℕ) (k : Kept Mounted) (unfinished : Option (List ℕ)) (waits : Bool)
      → Due asked k.now
      → AreDue (asked + 0) (k.now ∷ closing_of (machine turns) unfinished waits k)
  closing_due asked turns k None true is =
      all_counted asked (asked + 0) (k.now ∷ turns_between turns k.now) (sym (add-zero asked))
      (more asked k.now (turns_between turns k.now) is
      (merges asked k.now turns k.now.state.phase is))
  closing_due asked turns k None false is =
      all_counted asked (asked + 0) (k.now ∷ []) (sym (add-zero asked)) (one asked k.now is)
  closing_due asked turns k (Some command) waits is =
      all_counted asked (asked + 0) (k.now ∷ []) (sym (add-zero asked)) (one asked k.now is)

  session_due : (asked turns : ℕ) (k : Kept Mounted) (exchanges : List Exchange)
      (unfinished : Option (List ℕ)) (waits : Bool) (n : ℕ)
      → AskNoUpdate exchanges
      → Due asked k.now
      → AreDue (asked + turns_in turns k (take n exchanges))
      (steps_at
      (closing_of (machine turns) unfinished waits (kept_after (machine turns) k exchanges))
      k.now (items_of (machine turns) k exchanges unfinished) n)
  session_due asked turns k [] None waits zero other is =
      closing_due asked turns k None waits is
  session_due asked turns k [] None waits (suc n) other is =
      closing_due asked turns k None waits is
  session_due asked turns k [] (Some command) waits zero other is =
      all_counted asked (asked + 0) (open_behind (machine turns) k command).steps
      (sym (add-zero asked)) (open_behind_due asked turns k command is).steps
  session_due asked turns k [] (Some command) waits (suc n) other is =
      let b : ℕ = turns_before turns k.now.state.phase in
      let last : Mounted = (open_behind (machine turns) k command).last.now in
      all_counted asked (asked + 0) (last ∷ []) (sym (add-zero asked))
      (one asked last
      (less_due asked (b + 0) last.state.phase (open_behind_due asked turns k command is).last))
  session_due asked turns k (s ∷ ss) unfinished waits zero other is =
      all_counted asked (asked + 0) (item_behind (machine turns) k s).steps
      (sym (add-zero asked)) (exchange_behind asked turns k s other.0 is).steps
  session_due asked turns k (s ∷ ss) unfinished waits (suc n) other is =
      let i : Item Mounted = item_behind (machine turns) k s in
      let b : ℕ = turns_before turns k.now.state.phase in
      let t : ℕ =
      turns_asked (passed (machine turns) k).now.state.phase (request_of s.command) in
      let u : ℕ = turns_in turns i.last (take n ss) in
      let same : asked + (b + t) + u ≡ asked + (b + (t + u)) = omega arith in
      all_counted (asked + (b + t) + u) (asked + (b + (t + u)))
      (steps_at
      (closing_of (machine turns) unfinished waits (kept_after (machine turns) i.last ss))
      i.last.now (items_of (machine turns) i.last ss unfinished) n) same
      (session_due (asked + (b + t)) turns i.last ss unfinished waits n other.1
      (exchange_behind asked turns k s other.0 is).last)

  -- ---- runs

  run_due : (asked : ℕ) (m : Mounted) (run : Run) (whole : ℕ)
      → BeginsNone run
      → Due asked m
      → AreDue (asked + turns_by m whole run)
      (steps_at (closing_in m run) m (items_in m run) whole)
  run_due asked m (Serves turns exchanges unfinished waits) whole other is =
      session_due asked turns (nothing_staged m) exchanges unfinished waits whole other is
  run_due asked m (Carries c) zero other is =
      let later : List Mounted = (effect_on m None c).later in
      all_counted asked (asked + 0) (m ∷ later) (sym (add-zero asked))
      (more asked m later is (command_steps asked m None c other is))
  run_due asked m (Carries c) (suc n) other is =
      one (asked + turns_of c) (last_of m (effect_on m None c).later)
      (command_last asked m None c other is)
  run_due asked m (Installs set) whole other is = absurd other
  run_due asked m (Lives made next) whole other is = absurd other
  run_due asked m (Tells text) zero other is =
      all_counted asked (asked + 0) (m ∷ []) (sym (add-zero asked)) (one asked m is)
  run_due asked m (Tells text) (suc n) other is =
      all_counted asked (asked + 0) (m ∷ []) (sym (add-zero asked)) (one asked m is)

  runs_due : (asked : ℕ) (m : Mounted) (cuts : List Cut)
      → BeginNone cuts
      → Due asked m
      → Due (asked + turns_by_all m cuts) (folded m cuts)
  runs_due asked m [] other is = counted asked (asked + 0) m (sym (add-zero asked)) is
  runs_due asked m (c ∷ cs) other is =
      let t : ℕ = turns_by m c.whole c.run in
      let next : Mounted = after_cut m c in
      let u : ℕ = turns_by_all next cs in
      let same : asked + t + u ≡ asked + (t + u) = omega arith in
      counted (asked + t + u) (asked + (t + u)) (folded next cs) same
      (runs_due (asked + t) next cs other.1
      (run_due asked m c.run c.whole other.0 is next (cut_steps m c)))

  ended : (asked : ℕ) (phase : Phase) → IsDue left asked phase → left < asked → phase ≡ Idle
  ended asked Idle is many = refl
  ended asked (Installing source plan) is many = absurd is
  ended asked (Staged source still) is many = absurd is
  ended asked (Merging target still) is many = absurd (omega (arith, is, many))

-- ---- the target stays alone, or is wiped

module _ (slot : ℕ) (images : List ImageOfSlot) where
  -- the turns between two packets keep it
  between_alone : (turns : ℕ) (m : Mounted)
      → IsAlone slot images m
      → AreAlone slot images (turns_between turns m)
  between_alone turns m is = alone_effect slot images m None (Merge turns) refl is

  pub passed_alone : (turns : ℕ) (k : Kept Mounted)
      → IsAlone slot images k.now
      → IsAlone slot images (passed (machine turns) k).now
  passed_alone turns k is =
      last_alone slot images k.now (turns_between turns k.now) is (between_alone turns k.now is)

  -- no update is ready on the way
  not_ready : (left asked : ℕ) (phase : Phase) → IsDue left asked phase → IsReady phase → ⊥
  not_ready left asked (Staged source still) due ready = due
  not_ready left asked _ due ready = ready

  find_wiped : (ms : List Mounted)
      → ((x : Mounted) → IsOneOf ms x → IsReady x.state.phase → ⊥)
      → Finds (IsEnded slot images) ms
      → Finds (IsWiped slot images) ms
  find_wiped ms none found = elim found.is [
    | inl ready ↦ absurd (none found.mounted found.reached ready)
    | inr wiped ↦
        record { mounted = found.mounted; reached = found.reached; is = wiped }
  ]

  only_wiped : (left asked : ℕ) (m : Mounted) (cuts : List Cut)
      → BeginNone cuts
      → Due left asked m
      → SomeEnd slot images m cuts
      → SomeWiped slot images m cuts
  only_wiped left asked m [] other due some = absurd some
  only_wiped left asked m (c ∷ cs) other due (inl found) =
      inl (find_wiped (reached m c) (λ x at ready.
      let step = reached_steps m c x at in
      not_ready left (asked + turns_by m step.0 c.run) x.state.phase
      (run_due left asked m c.run step.0 other.0 due x step.1)
      ready) found)
  only_wiped left asked m (c ∷ cs) other due (inr later) =
      inr (only_wiped left (asked + turns_by m c.whole c.run) (after_cut m c) cs other.1
      (run_due left asked m c.run c.whole other.0 due (after_cut m c) (cut_steps m c))
      later)

pub merges_end : (first : Mounted) (cuts : List Cut)
    → BeginNone cuts
    → (target left : ℕ)
    → (images : List ImageOfSlot)
    → first.state.phase ≡ Merging target left
    → IsAlone target images first
    → left < turns_by_all first cuts
    → ((folded first cuts).state.phase ≡ Idle)
    × (IsMerged target images (folded first cuts) ⊎ SomeWiped target images first cuts)
merges_end first cuts other target left images phase is many =
    let asked : ℕ = turns_by_all first cuts in
    let whole : left + 0 ≤ left = omega arith in
    let begun : IsDue left 0 first.state.phase =
    subst (IsDue left 0) (sym phase) whole in
    let due : IsDue left (0 + asked) (folded first cuts).state.phase =
    runs_due left 0 first cuts other begun in
    let idle : (folded first cuts).state.phase ≡ Idle =
    ended left (0 + asked) (folded first cuts).state.phase due (omega (arith, many)) in (
      idle,
      elim
          (lasts (stand.Ends target images) (stand.Stands target images)
          (stand.apart target images) (stand.command_makes target images) first cuts is) [
            | inl last ↦ inl (record { idle = idle; alone = last })
            | inr some ↦ inr (only_wiped target images left 0 first cuts other begun some)
          ],
    )
