-- What the commands that install a set leave where all are done.
use Rattle.std.proofs.Common.{◌≡◌, ◌∙◌, inl, inr, ℕ, zero, suc, ◌+◌, ◌<◌, ◌≤◌, List, [], ◌∷◌, ◌++◌}
use Rattle.std.proofs.Common.{length, get_or, take, drop, refl, sym, ap, arith, append-nil}
use Rattle.std.proofs.Common.{append_assoc, add-one, take_all}
use Rattle.std.proofs.lemmas.List.{take-append-drop}
use Rattle.std.specs.Prelude.{Bool, true, false, Option, Some, None, is_some}
use Rattle.std.specs.Prelude.{if◌then◌else◌}
use Rattle.std.specs.List.{flat_map}
use Rattle.std.proofs.lemmas.Grind.{flat_map-append}
use Rattle.std.proofs.lemmas.Bool.{cases_Bool}
use Rattle.vab_bootctl.specs.Boot.{activated_of}
use Rattle.vab_layout.specs.Slots.{other_slot}
use Rattle.vab_set.specs.declared.set.SetImage.{SetImage}
use Rattle.vab_model.specs.declared.command.Reply.{Reply}
use Rattle.vab_model.specs.declared.command.Reply.TheVariants as replies
use Rattle.vab_model.specs.declared.state.Phase.{Phase}
use Rattle.vab_model.specs.declared.state.Phase.TheVariants.{Idle, Installing, Staged, Merging}
use Rattle.vab_model.specs.declared.state.Plan.{Plan}
use Rattle.vab_model.specs.Commands.{Command, Begin, Create, Resize, Finish, SetActive}
use Rattle.vab_model.specs.Effects.{Effect, answers, after_of, active_effect, effect_map}
use Rattle.vab_model.specs.Machine.{machine_effect}
use Rattle.vab_model.specs.State.{images_at}
use Rattle.vab_model.specs.Machine.{least_missing}
use Rattle.vab_device.specs.Mounted.{Mounted, in_state}
use Rattle.vab_device.specs.Updates.{effect_on, finish_effect, complete_effect}
use Rattle.vab_fbvars.specs.Variables.{has_image}
use Rattle.vab_update.specs.Install.{order, target_name, size_command, image_orders}
use Rattle.vab_update.specs.Install.{install_orders}
use Rattle.vab_update.specs.Orders.{Order, is_refused, effect_one, followed, effect_all}
use Rattle.vab_update.proofs.OrderLaws.{followed_refused, followed_done, after_second}
use Rattle.vab_update.proofs.OrderLaws.{effect_append}

-- an update is ready
abbrev pub IsReady : Phase → Type 0
IsReady phase = (source : ℕ) × (left : ℕ) × (phase ≡ Staged source left)

-- a finish that isn't refused makes it ready
finish_ready : (m : Mounted)
    → is_refused (effect_on m None Finish).reply ≡ false
    → IsReady (after_of m (effect_on m None Finish)).state.phase
finish_ready m = go m.state.phase
  where
    complete : (source : ℕ) (plan : Plan) (least : Option (List ℕ))
        → is_refused (complete_effect m source plan least).reply ≡ false
        → IsReady (after_of m (complete_effect m source plan least)).state.phase
    complete source plan None done = (source, _, refl)
    complete source plan (Some name) done = absurd cc

    go : (phase : Phase)
        → is_refused (finish_effect m phase).reply ≡ false
        → IsReady (after_of m (finish_effect m phase)).state.phase
    go Idle done = absurd cc
    go (Installing source plan) done =
        complete source plan (least_missing m.state source plan) done
    go (Staged source left) done = absurd cc
    go (Merging target left) done = absurd cc

-- boot control alone changes
active_phase : (m : Mounted) (slot : ℕ)
    → (after_of m (effect_on m None (SetActive slot))).state.phase ≡ m.state.phase
unfolding machine_effect
active_phase m slot = go (is_some (images_at m.state slot))
  where
    active : Bool → Effect Mounted
    active b =
        effect_map (in_state m) (active_effect b m.state (activated_of m.state.control slot))

    go : (b : Bool) → (after_of m (active b)).state.phase ≡ m.state.phase
    go true = refl
    go false = refl

-- The last two commands, where neither is refused.
last_ready : (m : Mounted) (slot : ℕ)
    → (effect_all (order Finish ∷ order (SetActive slot) ∷ []) m).reply ≡ replies.Done
    → IsReady (after_of m (effect_all (order Finish ∷ order (SetActive slot) ∷ []) m)).state.phase
unfolding effect_all
last_ready m slot done =
    let e : Effect Mounted = effect_one (order Finish) m in
    let n : Mounted = after_of m e in
    let f : Effect Mounted = effect_one (order (SetActive slot)) n in
    let rest : Effect Mounted = followed f (answers replies.Done) in
    elim (cases_Bool (is_refused e.reply)) [
      | inl refused ↦
          absurd
          (not_both e.reply refused
          (ap (λ (x : Effect Mounted). x.reply) (sym (followed_refused e rest refused)) ∙ done))
      | inr well ↦
          let ready = finish_ready m well in (
            ready.0,
            ready.1,
            ap (λ (x : Mounted). x.state.phase) (after_second m e rest well)
                ∙ active_after n f slot refl
                ∙ ready.2,
          )
    ]
  where
    not_both : (reply : Reply) → is_refused reply ≡ true → reply ≡ replies.Done → ⊥
    not_both reply refused is = let no : true ≡ false = sym refused ∙ ap is_refused is in cc

    active_after : (n : Mounted) (f : Effect Mounted) (slot : ℕ)
        → f ≡ effect_on n None (SetActive slot)
        → (after_of n (followed f (answers replies.Done))).state.phase ≡ n.state.phase
    active_after n f slot is = elim (cases_Bool (is_refused f.reply)) [
      | inl refused ↦
          ap (λ (x : Effect Mounted). (after_of n x).state.phase)
          (followed_refused f (answers replies.Done) refused ∙ is)
          ∙ active_phase n slot
      | inr well ↦
          ap (λ (x : Mounted). x.state.phase) (after_second n f (answers replies.Done) well)
          ∙ ap (λ (x : Effect Mounted). (after_of n x).state.phase) is
          ∙ active_phase n slot
    ]

-- Where all are done an update is ready.
pub installed_staged : (source : ℕ) (set : List SetImage) (m : Mounted)
    → (effect_all (install_orders source set) m).reply ≡ replies.Done
    → IsReady (after_of m (effect_all (install_orders source set) m)).state.phase
installed_staged source set m done =
    let xs : List Order = order Begin ∷ flat_map (image_orders source) set in
    let ys : List Order = order Finish ∷ order (SetActive (other_slot source)) ∷ [] in
    let e : Effect Mounted = effect_all xs m in
    let n : Mounted = after_of m e in
    let f : Effect Mounted = effect_all ys n in
    let both : effect_all (xs ++ ys) m ≡ followed e f = effect_append xs ys m in
    elim (cases_Bool (is_refused e.reply)) [
      | inl refused ↦
          absurd
          (not_both e.reply refused
          (ap (λ (x : Effect Mounted). x.reply)
          (sym (followed_refused e f refused) ∙ sym both)
          ∙ done))
      | inr well ↦
          let whole : f.reply ≡ replies.Done =
          ap (λ (x : Effect Mounted). x.reply) (sym (followed_done e f well) ∙ sym both) ∙ done in
          let ready = last_ready n (other_slot source) whole in (
            ready.0,
            ready.1,
            ap (λ (x : Effect Mounted). (after_of m x).state.phase) both
                ∙ ap (λ (x : Mounted). x.state.phase) (after_second m e f well)
                ∙ ready.2,
          )
    ]
  where
    not_both : (reply : Reply) → is_refused reply ≡ true → reply ≡ replies.Done → ⊥
    not_both reply refused is = let no : true ≡ false = sym refused ∙ ap is_refused is in cc

-- ---- the lists of commands

-- the size of a partition
pub size_is : (source : ℕ) (image : SetImage) (m : Mounted) (there : Bool) (name : List ℕ)
    (command : Command)
    → has_image m.state source image.name ≡ there
    → name ≡ target_name source image
    → command ≡ (if there then Resize name image.size else Create name image.size)
    → size_command source image m ≡ command
size_is source image m there name command is named same =
    (λ i.
    if is i then Resize (sym named i) image.size else Create (sym named i) image.size)
    ∙ sym same

-- so many images, and the next one
pub orders_next : (source : ℕ) (set : List SetImage) (n : ℕ) (image : SetImage)
    → n < length set
    → get_or set n image ≡ image
    → (order Begin ∷ flat_map (image_orders source) (take n set)) ++ image_orders source image
    ≡ order Begin ∷ flat_map (image_orders source) (take (n + 1) set)
orders_next source set n image below is =
    let more : take (n + 1) set ≡ take n set ++ image ∷ [] = rw add-one (taken set n below is) in
    ap (λ (l : List Order). order Begin ∷ l)
    (sym
    (ap (flat_map (image_orders source)) more
    ∙ flat_map-append (image_orders source) (take n set) (image ∷ [])
    ∙ ap (λ (l : List Order). flat_map (image_orders source) (take n set) ++ l)
    (append-nil (image_orders source image))))
  where
    taken : (xs : List SetImage) (k : ℕ)
        → k < length xs
        → get_or xs k image ≡ image
        → take (suc k) xs ≡ take k xs ++ image ∷ []
    taken [] k below is = absurd (omega (arith, below))
    taken (x ∷ xs) zero below is = ap (λ (y : SetImage). y ∷ []) is
    taken (x ∷ xs) (suc k) below is =
        ap (λ (l : List SetImage). x ∷ l) (taken xs k (omega (arith, below)) is)

-- what stands behind so many images
abbrev pub orders_behind : (source : ℕ) → List SetImage → ℕ → List Order
orders_behind source set n =
    flat_map (image_orders source) (drop n set)
    ++ order Finish
    ∷ order (SetActive (other_slot source))
    ∷ []

-- so many images, and what stands behind them
pub orders_both : (source : ℕ) (set : List SetImage) (n : ℕ)
    → (order Begin ∷ flat_map (image_orders source) (take n set)) ++ orders_behind source set n
    ≡ install_orders source set
orders_both source set n =
    ap (λ (l : List Order). order Begin ∷ l)
    (sym
    (append_assoc (flat_map (image_orders source) (take n set))
    (flat_map (image_orders source) (drop n set))
    (order Finish ∷ order (SetActive (other_slot source)) ∷ []))
    ∙ ap (λ (l : List Order). l ++ order Finish ∷ order (SetActive (other_slot source)) ∷ [])
    (sym (flat_map-append (image_orders source) (take n set) (drop n set))
    ∙ ap (flat_map (image_orders source)) (take-append-drop n set)))

-- all of them
pub orders_all : (source : ℕ) (set : List SetImage) (n : ℕ)
    → length set ≤ n
    → order Begin ∷ flat_map (image_orders source) (take n set)
    ≡ order Begin ∷ flat_map (image_orders source) set
orders_all source set n is =
    ap (λ (l : List SetImage). order Begin ∷ flat_map (image_orders source) l) (take_all n set is)
