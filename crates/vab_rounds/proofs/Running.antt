-- A run that is cut is a round.
use Rattle.std.proofs.Common.{◌≡◌, ◌∙◌, ◌⊎◌, inl, inr, ⊎_elim, ℕ, ◌≤◌, ◌<◌, ◌^◌, Bool}
use Rattle.std.proofs.Common.{true}
use Rattle.std.proofs.Common.{false, List, [], ◌∷◌, length, Some, None}
use Rattle.std.proofs.Common.{Result}
use Rattle.std.proofs.Common.{Ok, Err, refl, sym, ap, subst}
use Rattle.std.proofs.lemmas.Bool.{cases_lt}
use Rattle.std.proofs.lemmas.List.{append-nil}
use Rattle.vab_disk.specs.declared.disk.Disk.{Ghosts}
use Rattle.vab_disk.specs.Disk.{Image, Outcome, Leaves}
use Rattle.vab_disk.specs.Calls.{IsAtRest}
use Rattle.vab_gen.specs.Sets.{fresh_set, next_set}
use Rattle.vab_set.specs.Reading.{set_of}
use Rattle.vab_set.specs.declared.set.SetImage.{SetImage}
use Rattle.vab_set.specs.declared.fault.SetFault.{SetFault}
use Rattle.vab_model.specs.Commands.{Command}
use Rattle.vab_model.specs.Commands as commands
use Rattle.vab_device.specs.Mounted.{Mounted}
use Rattle.vab_device.specs.Reading.{IsIn}
use Rattle.vab_make.specs.Made.{refusal_of, made_device_of}
use Rattle.vab_make.specs.Making.{LeavesMaking}
use Rattle.vab_words.specs.Verbs.{Meaning, Make, Adopt, Serve, Install, Boot, Mark, BeginMerge}
use Rattle.vab_words.specs.Verbs.{Merge, Cancel, Activate, Print, Digest, Demo, Status as Page}
use Rattle.vab_adopt.specs.declared.fault.AdoptFault.TheVariants.{AlreadyDevice}
use Rattle.vab_adopt.specs.Adopted.{adopted, adopt_refusal}
use Rattle.vab_adopt.specs.Adopting.{LeavesAdopting}
use Rattle.vab_adopt.proofs.RefusalLaws.{already_refused}
use Rattle.vab_exchanges.specs.Items.{Item}
use Rattle.vab_exchanges.specs.Runs.{CrashesWithin}
use Rattle.vab_exchanges.specs.Session.{waits_in}
use Rattle.vab_exchanges.proofs.RunLaws.{closes, within_item}
use Rattle.vab_status.specs.Page.{page}
use Rattle.vab_cli.specs.declared.status.Status.{Status}
use Rattle.vab_cli.specs.declared.status.Status.TheVariants.{Done, Malformed}
use Rattle.vab_cli.specs.Adopting.{adopt_line, done_adopting}
use Rattle.vab_cli.specs.Installing.{install_item, install_status, RunsOrFails}
use Rattle.vab_cli.specs.Paging.{page_item}
use Rattle.vab_cli.specs.Program.{DoesVerb, Runs, RunsOf}
use Rattle.vab_cli.specs.Runs.{RunsSession, FailsBefore, LeavesFirst, LeavesTelling}
use Rattle.vab_cli.specs.Verbs.{command_of, done_making, line_item}
use Rattle.vab_rounds.specs.Rounds.{Run, Serves, Carries, Installs, Tells, Lives, items_in}
use Rattle.vab_rounds.specs.Rounds.{greeting_of, closing_in}
use Rattle.vab_rounds.specs.Runs.{IsMaking, MakesNone, IsRunOf, LeavesRound, IsRun}

-- where nothing else may be
certain : {P : Type 0} → P ⊎ ⊥ → P
certain (inl p) = p
certain (inr none) = absurd none

-- what was left is the next device
leaves_round : (m : Meaning) (size : ℕ) (input : List ℕ) (first : Mounted) (told : List ℕ)
    (o : Outcome) (run : Run)
    → IsRunOf m size input first run
    → CrashesWithin (IsIn size) (greeting_of run) first (items_in first run) (closing_in first run)
    told o
    → LeavesRound m size input first told o
leaves_round m size input first told o run is crash = record {
  run = run;
  is = is;
  next = crash.step.0;
  round = record { crashes = crash; leaves = crash.step.2 };
}

-- nothing is told, and the disk is the device that it was
untold : (m : Meaning) (size : ℕ) (input : List ℕ) (first : Mounted) (told : List ℕ) (o : Outcome)
    → LeavesFirst told size first o
    → LeavesRound m size input first told o
untold m size input first told o leaves =
    leaves_round m size input first told o (Tells []) (inl refl) (record {
      since = [];
      told_since = leaves.told_so_far ∙ sym (append-nil told);
      front = (0, refl);
      step = (first, inl refl, leaves.stands);
    })

module _ {D : Type 0}
    (g : Ghosts D)
    (only_now : (d : D) (o : Outcome)
    → g.outcomes d (g.moment d) o
    → Leaves (g.told d) (g.may_leave d) o)
    (modelled : g.is_modelled)
    (m : Meaning)
    (old new : D)
    (status : Status)
    (rest : IsAtRest g old)
    (o : Outcome)
    (at : g.outcomes new (g.moment old) o) where
  -- where nothing is done at all the disk is as it was
  same_image : new ≡ old → (o.told ≡ g.told old) × (o.image ≡ g.seen old)
  same_image same =
      let leaves = only_now old o (subst (λ (d : D). g.outcomes d (g.moment old) o) same at) in
      (leaves.told_so_far, λ i s. rest s (o.image s) (leaves.each_sector s) i)

  unchanged : (first : Mounted)
      → IsIn (g.size old) first (g.seen old)
      → new ≡ old
      → LeavesFirst (g.told old) (g.size old) first o
  unchanged first is same =
      let left = same_image same in
      record {
        told_so_far = left.0;
        stands = subst (λ (i : Image). IsIn (g.size old) first i) (sym left.1) is;
      }

  -- what a run of these words does
  runs_as : (n : Meaning) → m ≡ n → DoesVerb g m old new status → Runs g old new status n
  runs_as n words does =
      (let named = subst (λ (x : Meaning). DoesVerb g x old new status) words does in
      named.runs modelled)

  abbrev Round : Mounted → Type 0
  Round first = LeavesRound m (g.size old) (g.input_left old) first (g.told old) o

  round_of : (first : Mounted) (run : Run)
      → IsRunOf m (g.size old) (g.input_left old) first run
      → CrashesWithin (IsIn (g.size old)) (greeting_of run) first (items_in first run)
      (closing_in first run) (g.told old) o
      → Round first
  round_of first run is crash =
      leaves_round m (g.size old) (g.input_left old) first (g.told old) o run is crash

  failed : (first : Mounted) → FailsBefore g (g.size old) first old new status → Round first
  failed first fails =
      untold m (g.size old) (g.input_left old) first (g.told old) o (fails.every_cut rest o at)

  -- a front of the line is told, and the disk stays
  refusal_told : (slot : ℕ) (first : Mounted)
      → m ≡ Adopt slot
      → IsIn (g.size old) first (g.seen old)
      → LeavesTelling (g.told old) (adopt_line AlreadyDevice) (λ image. image ≡ g.seen old) o
      → Round first
  refusal_told slot first words is left =
      let stands : IsIn (g.size old) first o.image =
      subst (λ (i : Image). IsIn (g.size old) first i) (sym left.kind) is in
      round_of first (Tells (adopt_line AlreadyDevice))
      (inr (inr (inl (slot, words, inl refl))))
      (within_item (IsIn (g.size old)) [] [] first [] []
      (line_item first (adopt_line AlreadyDevice)) (g.told old) (g.told old) (closes [] first)
      (sym (append-nil (g.told old))) o
      (record { front = left.front; step = (first, inl refl, stands); whole = λ all. stands }))

  session : (fresh : Bool) (turns : ℕ) (Else : Outcome → Type 0) (first : Mounted)
      → m ≡ Serve fresh turns
      → RunsSession g (g.size old) Else turns first old new status
      → Round first ⊎ Else o
  session fresh turns Else first words runs =
      ⊎_elim
      (λ crash. inl (round_of first
      (Serves turns runs.exchanges runs.unfinished (waits_in (2 ^ 44) (g.input_left old) runs.end))
      ((fresh, words), (runs.refused, runs.end, runs.session, refl))
      crash))
      (λ other. inr other)
      (runs.items.every_cut rest o at)

  command : (c : Command) (first : Mounted)
      → command_of m ≡ Some c
      → IsIn (g.size old) first (g.seen old)
      → RunsOf g old new status (Some c)
      → Round first
  command c first some is does =
      ⊎_elim
      (λ runs. round_of first (Carries c) some (certain (runs.items.every_cut rest o at)))
      (λ fails. failed first fails)
      (does.opened first is)

  -- one item, where it is that of a run
  same_crash : (first : Mounted) (run : Run) (i : Item Mounted)
      → items_in first run ≡ i ∷ []
      → greeting_of run ≡ []
      → closing_in first run ≡ []
      → CrashesWithin (IsIn (g.size old)) [] first (i ∷ []) [] (g.told old) o
      → CrashesWithin (IsIn (g.size old)) (greeting_of run) first (items_in first run)
      (closing_in first run) (g.told old) o
  same_crash first run i items greeting closing crash =
      subst
      (λ (x : List (Item Mounted) × List ℕ × List Mounted). CrashesWithin (IsIn (g.size old))
      x.1 first x.0 x.2 (g.told old) o)
      (λ k. (sym items k, sym greeting k, sym closing k))
      crash

  item : (first : Mounted) (run : Run) (ends : Status)
      → IsRunOf m (g.size old) (g.input_left old) first run
      → ((i : Item Mounted)
      → items_in first run ≡ i ∷ []
      → greeting_of run ≡ []
      → closing_in first run ≡ []
      → RunsOrFails g old new status first i ends
      → Round first)
  item first run ends is i items greeting closing (inl runs) =
      round_of first run is
      (same_crash first run i items greeting closing (certain (runs.items.every_cut rest o at)))
  item first run ends is i items greeting closing (inr (inl short)) =
      round_of first run is
      (same_crash first run i items greeting closing (short.every_cut rest o at))
  item first run ends is i items greeting closing (inr (inr fails)) = failed first fails

  -- an input that is no set, and one that is
  not_a_set : (first : Mounted)
      → m ≡ Install
      → IsIn (g.size old) first (g.seen old)
      → (2 ^ 32 < length (g.input_left old))
      ⊎ ((fault : SetFault) × (set_of (g.input_left old) ≡ Err fault))
      → DoesVerb g m old new status
      → Round first
  not_a_set first words is bad does =
      item first (Tells []) Malformed (inl refl) (line_item first []) refl refl refl
      (((runs_as Install words does).opened first is).malformed bad)

  by_set : (first : Mounted)
      → m ≡ Install
      → IsIn (g.size old) first (g.seen old)
      → DoesVerb g m old new status
      → length (g.input_left old) ≤ 2 ^ 32
      → (set : Result (List SetImage) SetFault)
      → set_of (g.input_left old) ≡ set
      → Round first
  by_set first words is does fits (Ok set) spelled =
      item first (Installs set) (install_status first set)
      (words, spelled) (install_item first set) refl refl refl
      (((runs_as Install words does).opened first is).item set fits spelled)
  by_set first words is does fits (Err fault) spelled =
      not_a_set first words is (inr (fault, spelled)) does

  installed : (first : Mounted)
      → m ≡ Install
      → IsIn (g.size old) first (g.seen old)
      → DoesVerb g m old new status
      → Round first
  installed first words is does =
      ⊎_elim
      (λ long. not_a_set first words is (inl long) does)
      (λ fits. by_set first words is does fits (set_of (g.input_left old)) refl)
      (cases_lt (2 ^ 32) (length (g.input_left old)))

  paged : (first : Mounted)
      → m ≡ Page
      → IsIn (g.size old) first (g.seen old)
      → DoesVerb g m old new status
      → Round first
  paged first words is does =
      item first (Tells (page first.state)) Done (inr (inl (words, refl))) (page_item first)
      refl refl refl
      ((runs_as Page words does).opened first is)

  served : (fresh : Bool) (turns : ℕ) (first : Mounted)
      → m ≡ Serve fresh turns
      → fresh ≡ false
      → IsIn (g.size old) first (g.seen old)
      → DoesVerb g m old new status
      → Round first
  served fresh turns first words not_fresh is does =
      let serves : m ≡ Serve false turns = words ∙ ap (λ (b : Bool). Serve b turns) not_fresh in
      ⊎_elim
      (λ runs. certain (session false turns (λ o. ⊥) first serves runs))
      (λ fails. failed first fails)
      ((runs_as (Serve false turns) serves does).opened first is)

  -- a device isn't adopted
  unadopted : (slot : ℕ) (first : Mounted)
      → m ≡ Adopt slot
      → IsIn (g.size old) first (g.seen old)
      → DoesVerb g m old new status
      → Round first
  unadopted slot first words is does =
      let refused = (runs_as (Adopt slot) words does).refused AlreadyDevice
      (already_refused (g.size old) slot (g.seen old) first is) in
      refusal_told slot first words is (refused.every_cut rest o at)

  -- by the words
  by_words : (first : Mounted)
      → IsIn (g.size old) first (g.seen old)
      → DoesVerb g m old new status
      → (n : Meaning)
      → m ≡ n
      → MakesNone n
      → Round first
  by_words first is does (Make limit max) words none = absurd none
  by_words first is does (Adopt slot) words none = unadopted slot first words is does
  by_words first is does (Serve fresh turns) words none =
      served fresh turns first words none is does
  by_words first is does Install words none = installed first words is does
  by_words first is does Boot words none =
      command commands.Boot first (ap command_of words) is (runs_as Boot words does)
  by_words first is does Mark words none =
      command commands.Mark first (ap command_of words) is (runs_as Mark words does)
  by_words first is does BeginMerge words none =
      command commands.BeginMerge first (ap command_of words) is (runs_as BeginMerge words does)
  by_words first is does (Merge blocks) words none =
      command (commands.Merge blocks) first (ap command_of words) is
      (runs_as (Merge blocks) words does)
  by_words first is does Cancel words none =
      command commands.Cancel first (ap command_of words) is (runs_as Cancel words does)
  by_words first is does (Activate slot) words none =
      command (commands.SetActive slot) first (ap command_of words) is
      (runs_as (Activate slot) words does)
  by_words first is does (Print name) words none =
      command (commands.Print name) first (ap command_of words) is (runs_as (Print name) words does)
  by_words first is does (Digest name) words none =
      command (commands.Digest name) first (ap command_of words) is
      (runs_as (Digest name) words does)
  by_words first is does Page words none = paged first words is does
  by_words first is does (Demo seed scale) words none = absurd none

  pub run_is_round : IsRun g m old new status
      → MakesNone m
      → (first : Mounted)
      → IsIn (g.size old) first (g.seen old)
      → Round first
  run_is_round (inl wants) none first is =
      untold m (g.size old) (g.input_left old) first (g.told old) o
      (unchanged first is wants.1)
  run_is_round (inr does) none first is = by_words first is does m refl none

  -- ---- a device that is made

  abbrev Making : List SetImage → (limit max : ℕ) → Type 0
  Making set limit max =
      Round (made_device_of set limit max (g.size old))
      ⊎ LeavesMaking (g.told old) set limit max (g.size old) (g.seen old) o

  made : (set : List SetImage) (limit max : ℕ)
      → m ≡ Make limit max
      → length (g.input_left old) ≤ 2 ^ 32
      → set_of (g.input_left old) ≡ Ok set
      → refusal_of set limit max (g.size old) ≡ None
      → DoesVerb g m old new status
      → Making set limit max
  made set limit max words fits spelled none does =
      ⊎_elim
      (λ crash. inl (round_of (made_device_of set limit max (g.size old))
      (Tells (done_making set (g.size old)))
      (inr (inr (inr (set, (limit, max, inl (words, fits, spelled, none)), refl))))
      crash))
      (λ early. inr early)
      (((runs_as (Make limit max) words does).made set fits spelled none).every_cut rest o at)

  of_these : (is set : List SetImage) (limit max : ℕ)
      → set ≡ is
      → limit ≡ 0
      → max ≡ 65536
      → Making is 0 65536
      → Making set limit max
  of_these is set limit max same none most making =
      subst (λ (s : List SetImage). Making s limit max) (sym same)
      (subst (λ (n : ℕ). Making is n max) (sym none)
      (subst (λ (n : ℕ). Making is 0 n) (sym most) making))

  fresh : (turns : ℕ)
      → m ≡ Serve true turns
      → 6152 ≤ g.size old
      → DoesVerb g m old new status
      → Making [] 0 65536
  fresh turns words enough does =
      ⊎_elim
      (λ runs. session true turns
      (LeavesMaking (g.told old) [] 0 65536 (g.size old) (g.seen old))
      (made_device_of [] 0 65536 (g.size old))
      words runs)
      (λ fails. inr (fails.every_cut rest o at))
      ((runs_as (Serve true turns) words does).enough enough)

  demonstrated : (seed scale : ℕ)
      → m ≡ Demo seed scale
      → refusal_of (fresh_set scale seed) 0 65536 (g.size old) ≡ None
      → DoesVerb g m old new status
      → Making (fresh_set scale seed) 0 65536
  demonstrated seed scale words none does =
      let set : List SetImage = fresh_set scale seed in
      let next : List SetImage = next_set scale seed set in
      let made : List ℕ = done_making set (g.size old) in
      let first : Mounted = made_device_of set 0 65536 (g.size old) in
      ⊎_elim
      (λ runs. ⊎_elim
      (λ crash. inl (round_of first (Lives made next) (seed, scale, words, refl, refl) crash))
      (λ early. inr early)
      (runs.items.every_cut rest o at))
      (λ fails. inr (fails.every_cut rest o at))
      ((runs_as (Demo seed scale) words does).lives none)

  -- a disk that is adopted
  pub adopting_is_round : IsRun g m old new status
      → (slot : ℕ)
      → m ≡ Adopt slot
      → (first : Mounted)
      → adopted (g.size old) slot (g.seen old) ≡ Ok first
      → adopt_refusal (g.size old) slot (g.seen old) ≡ None
      → Round first ⊎ LeavesAdopting (g.told old) (g.size old) slot (g.seen old) o
  adopting_is_round (inl wants) slot words first is none =
      let left = same_image wants.1 in
      inr (record { told_so_far = left.0; either = inl left.1 })
  adopting_is_round (inr does) slot words first is none =
      ⊎_elim
      (λ crash. inl (round_of first (Tells (done_adopting slot first))
      (inr (inr (inl (slot, words, inr refl)))) crash))
      (λ early. inr early)
      (((runs_as (Adopt slot) words does).adopts first is none).every_cut rest o at)

  pub making_is_round : IsRun g m old new status
      → (set : List SetImage) (limit max : ℕ)
      → IsMaking m (g.size old) (g.input_left old) set limit max
      → Making set limit max
  making_is_round (inl wants) set limit max is =
      let left = same_image wants.1 in
      inr (record { told_so_far = left.0; either = inl left.1 })
  making_is_round (inr does) set limit max (inl makes) =
      made set limit max makes.0 makes.1 makes.2 makes.3 does
  making_is_round (inr does) set limit max (inr (inl serves)) =
      of_these [] set limit max serves.2 serves.3 serves.4
      (fresh serves.0.0 serves.0.1 serves.1 does)
  making_is_round (inr does) set limit max (inr (inr lives)) =
      of_these (fresh_set lives.1 lives.0) set limit max lives.4 lives.5 lives.6
      (demonstrated lives.0 lives.1 lives.2 lives.3 does)
