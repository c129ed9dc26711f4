-- The turns of a merge that are made between two packets.
use Rattle.std.proofs.Common.{◌≡◌, ◌∙◌, ℕ, Bool, true, false, List, [], ◌∷◌, Option, None, Result}
use Rattle.std.proofs.Common.{Ok, Err}
use Rattle.std.proofs.Common.{refl, sym, ap, subst, cond}
use Rattle.std.specs.Prelude.{◌&&◌}
use Rattle.vab_disk.specs.declared.disk.Disk.{Ghosts}
use Rattle.vab_disk.proofs.CallLaws.{changes_none, reads_none}
use Rattle.vab_disk.proofs.Moments.{adds_none, adds_wider}
use Rattle.vab_gate.specs.declared.gate.DiskFault.{DiskFault}
use Rattle.vab_model.specs.declared.state.Phase.{Phase}
use Rattle.vab_model.specs.declared.state.Phase.TheVariants.{Idle, Installing, Staged, Merging}
use Rattle.vab_model.specs.declared.command.Reply.{Reply}
use Rattle.vab_model.specs.declared.command.Refusal.TheVariants.{NoMemory}
use Rattle.vab_model.specs.Commands.{Merge}
use Rattle.vab_model.specs.Effects.{Effect, refuses, last_of, IsOneOf}
use Rattle.vab_model.specs.Machine.{turns as turns_of}
use Rattle.vab_device.specs.declared.device.Device.{Device}
use Rattle.vab_device.specs.Does.{Does, effect_of}
use Rattle.vab_device.specs.Kept.{IsDevice}
use Rattle.vab_device.specs.Mounted.{Mounted, mounted_on}
use Rattle.vab_device.specs.Reading.{IsIn, Represents}
use Rattle.vab_device.specs.Updates.{effect_on, merge_effect}
use Rattle.vab_device.proofs.DoesLaws.{keeps_all}
use Rattle.vab_device.proofs.WantLaws.{verb_wants}
use Rattle.vab_merging.specs.Writes.{IsOfMerge}
use Rattle.vab_commands.specs.Touched.{ChangesBy}
use Rattle.vab_commands.proofs.ChangeLaws.{changes_under, command_changes_by, follows_under}
use Rattle.vab_exchanges.specs.Runs.{Passes}
use Rattle.vab_session.specs.Between.{GoesOn}
use Rattle.vab_session.specs.Responses.{turns_between}
use Rattle.vab_session.specs.Served.{kept_on}
use Rattle.vab_session.specs.declared.fault.SessionFault.TheVariants.{Disk}
use Rattle.vab_session.specs.declared.kept.KeptDevice.{KeptDevice}
use Rattle.vab_session.proofs.Changing.{changes_still, follows_done, follows_kept}
use Rattle.vab_session.proofs.WrittenLaws.{command_writes, writes_still}

-- ---- no turn

no_merge : (m : Mounted) (phase : Phase) → (merge_effect m 0 phase).later ≡ []
unfolding turns_of
no_merge m Idle = refl
no_merge m (Installing source plan) = refl
no_merge m (Staged source left) = refl
no_merge m (Merging target left) = refl

no_turns : (n : ℕ) (m : Mounted) → n ≡ 0 → turns_between n m ≡ []
no_turns n m none =
    ap (λ (k : ℕ). (merge_effect m k m.state.phase).later) none ∙ no_merge m m.state.phase

-- ---- a merge wants no memory

unless_wanted : (refused wants : Bool) (e : Effect Mounted)
    → wants ≡ false
    → cond (refused && wants) (refuses NoMemory) e ≡ e
unless_wanted false wants e none = refl
unless_wanted true false e none = refl
unless_wanted true true e none = absurd (let bad : true ≡ false = none in cc)

module _ {D : Type 0} (g : Ghosts D) (kept : KeptDevice) (n : ℕ) (old new : D) where
  abbrev d : Device
  d = kept.device

  abbrev before : Mounted
  before = mounted_on d (g.seen old)

  merge_is : (refused : Bool) (staged : Option (List ℕ))
      → effect_of g d staged (Merge n) refused old ≡ effect_on before staged (Merge n)
  merge_is refused staged =
      unless_wanted refused (effect_on before staged (Merge n)).wants
      (effect_on before staged (Merge n))
      (verb_wants before staged (Merge n) refl)

  pub goes_nowhere : n ≡ 0
      → IsDevice d (g.size old)
      → (g.is_modelled → Represents d (g.size old) (g.seen old))
      → GoesOn g kept n old old (Ok kept)
  goes_nowhere none device stands = record {
    device = device;
    follows = follows_kept d (n ≡ 0) d (keeps_all d);
    stands = stands;
    after = λ t.
        ap
        (λ (l : List Mounted).
        record { now = last_of before l; staged = (kept_on kept (g.seen old)).staged })
        (sym (no_turns n before none));
    rest = λ t rest. rest;
    quiet = (reads_none g old).quiet;
    passes = λ t. record {
      told = refl;
      heard = refl;
      time = λ rest. adds_none g.moment g.outcomes old _;
    };
    changes = λ t. changes_still g d (n ≡ 0) old old (λ W. changes_none g W old);
    writes = λ t. writes_still g _ old old refl (adds_none g.moment g.outcomes old _);
    fault = tt;
    cause = record {
      counts = (reads_none g old).quiet.counts;
      steady = λ held. refl;
      disk = λ is. cc;
      source = λ is. cc;
      sink = λ is. cc;
    };
  }

  -- what each outcome is
  passing : (r : Result (Device × Reply) DiskFault)
      → Does g d None (Merge n) (IsOfMerge d n) old new r
      → g.is_modelled
      → Passes (IsIn (g.size old)) g (turns_between n before) before old new
  passing r did t = record {
    told = did.quiet.told t;
    heard = did.quiet.heard t;
    time = λ rest.
        adds_wider g.moment g.outcomes old new _ _ (did.time t rest)
        (λ o leaves. (
          leaves.told_so_far,
          (
            leaves.mounted,
            subst (λ (e : Effect Mounted). IsOneOf (before ∷ e.later) leaves.mounted)
                (merge_is did.refused None) leaves.step,
            leaves.means,
          ),
        ));
  }

  module _ (some : n ≡ 0 → ⊥) (device : IsDevice d (g.size old))
      (stands : g.is_modelled → Represents d (g.size old) (g.seen old)) where
    changed : (r : Result (Device × Reply) DiskFault)
        → Does g d None (Merge n) (IsOfMerge d n) old new r
        → g.is_modelled
        → ChangesBy g d (n ≡ 0) old new
    changed r did t =
        changes_under g d _ (n ≡ 0) old new (λ none. absurd (some none))
        (command_changes_by g d (Merge n) old new t device (stands t) (did.touches t))

    pub goes : (r : Device × Reply)
        → ((staged : Option (List ℕ)) → Does g d staged (Merge n) (IsOfMerge d n) old new (Ok r))
        → GoesOn g kept n old new (Ok (record { device = r.0; staged = kept.staged }))
    goes r does =
        let did = does None in
        record {
          device = did.kept;
          follows =
              follows_under d _ (n ≡ 0) r.0 (λ none. absurd (some none))
              (follows_done d (Merge n) r.0 did.follows);
          stands = did.represents;
          after = λ t.
              let last : mounted_on r.0 (g.seen new) ≡ last_of before (turns_between n before) =
              did.after t
              ∙ ap (λ (e : Effect Mounted). last_of before e.later) (merge_is did.refused None) in
              ap
              (λ (m : Mounted).
              record { now = m; staged = (kept_on kept (g.seen old)).staged })
              last;
          rest = did.rest;
          quiet = did.quiet;
          passes = passing (Ok r) did;
          changes = changed (Ok r) did;
          writes = λ t.
              command_writes g t d (kept_on kept (g.seen old)) (Merge n) old new refl (Ok r)
              (does (kept_on kept (g.seen old)).staged);
          fault = tt;
          cause = record {
            counts = did.quiet.counts;
            steady = λ held. did.faults.steady;
            disk = λ is. cc;
            source = λ is. cc;
            sink = λ is. cc;
          };
        }

    pub goes_wrong : (fault : DiskFault)
        → ((staged : Option (List ℕ))
        → Does g d staged (Merge n) (IsOfMerge d n) old new (Err fault))
        → GoesOn g kept n old new (Err Disk)
    goes_wrong fault does =
        let did = does None in
        record {
          device = tt;
          follows = tt;
          stands = λ t. tt;
          after = λ t. tt;
          rest = λ t rest. tt;
          quiet = did.quiet;
          passes = passing (Err fault) did;
          changes = changed (Err fault) did;
          writes = λ t.
              command_writes g t d (kept_on kept (g.seen old)) (Merge n) old new refl (Err fault)
              (does (kept_on kept (g.seen old)).staged);
          fault = refl;
          cause = record {
            counts = did.quiet.counts;
            steady = λ held. absurd held;
            disk = λ is. did.faults.cause;
            source = λ is. cc;
            sink = λ is. cc;
          };
        }
