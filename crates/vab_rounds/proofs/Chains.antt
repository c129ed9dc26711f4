-- Runs of the program one after another are rounds.
use Rattle.std.proofs.Common.{◌≡◌, ◌∙◌, ◌⊎◌, inl, inr, ℕ, List, [], ◌∷◌, Option, Some, None, refl}
use Rattle.std.proofs.Common.{Ok, sym, subst}
use Rattle.std.proofs.lemmas.List.{append-nil}
use Rattle.vab_disk.specs.declared.disk.Disk.{Ghosts}
use Rattle.vab_disk.specs.Disk.{Image, Outcome, Leaves}
use Rattle.vab_disk.specs.Calls.{IsAtRest}
use Rattle.vab_set.specs.declared.set.SetImage.{SetImage}
use Rattle.vab_device.specs.Mounted.{Mounted}
use Rattle.vab_device.specs.Reading.{IsIn}
use Rattle.vab_make.specs.Made.{made_device_of}
use Rattle.vab_make.specs.Making.{LeavesMaking}
use Rattle.vab_adopt.specs.Adopted.{adopted, adopt_refusal}
use Rattle.vab_adopt.specs.Adopting.{LeavesAdopting}
use Rattle.vab_words.specs.Verbs.{Adopt, Meaning}
use Rattle.vab_cli.specs.declared.status.Status.{Status}
use Rattle.vab_rounds.specs.Rounds.{Tells, Round}
use Rattle.vab_rounds.specs.Runs.{IsMaking, LeavesRound, IsRun}
use Rattle.vab_rounds.specs.Chains.{CutRun, MakesNothing, MakeNothing, IsAskedFor, IsPromised}
use Rattle.vab_rounds.specs.Chains.{IsCutRun}
use Rattle.vab_rounds.specs.Chains.{AreCutRuns, IsRoundOf, HaveRounds}
use Rattle.vab_rounds.proofs.Running.{adopting_is_round, making_is_round, run_is_round}

module _ {D : Type 0}
    (g : Ghosts D)
    (only_now : (d : D) (o : Outcome)
    → g.outcomes d (g.moment d) o
    → Leaves (g.told d) (g.may_leave d) o)
    (modelled : g.is_modelled) where
  -- a run, and the device that it leaves
  record Left (size : ℕ) (first : Mounted) (r : CutRun D) : Type 0 where
    round : Round
    next : Mounted
    of : IsRoundOf g size first r round next

  -- words that aren't taken leave all as it was
  untaken : (first : Mounted) (old new : D) (status : Status) (o : Outcome)
      → IsIn (g.size old) first (g.seen old)
      → IsAtRest g old
      → new ≡ old
      → g.outcomes new (g.moment old) o
      → Left (g.size old) first
      (record { words = None; old = old; new = new; status = status; outcome = o })
  untaken first old new status o is rest same at =
      let leaves = only_now old o (subst (λ (d : D). g.outcomes d (g.moment old) o) same at) in
      let stays : o.image ≡ g.seen old = λ i s. rest s (o.image s) (leaves.each_sector s) i in
      let there : IsIn (g.size old) first o.image =
      subst (λ (i : Image). IsIn (g.size old) first i) (sym stays) is in
      record {
        round = record { run = Tells []; told = g.told old; outcome = o };
        next = first;
        of = record {
          asked = refl;
          told = refl;
          outcome = refl;
          is = record {
            crashes = record {
              since = [];
              told_since = leaves.told_so_far ∙ sym (append-nil (g.told old));
              front = (0, refl);
              step = (first, inl refl, there);
            };
            leaves = there;
          };
        };
      }

  taken : (m : Meaning) (first : Mounted) (old new : D) (status : Status) (o : Outcome)
      → LeavesRound m (g.size old) (g.input_left old) first (g.told old) o
      → Left (g.size old) first
      (record { words = Some m; old = old; new = new; status = status; outcome = o })
  taken m first old new status o left = record {
    round = record { run = left.run; told = g.told old; outcome = o };
    next = left.next;
    of = record { asked = left.is; told = refl; outcome = refl; is = left.round };
  }

  left_by : (words : Option Meaning) (first : Mounted) (old new : D) (status : Status)
      (o : Outcome)
      → IsIn (g.size old) first (g.seen old)
      → IsAtRest g old
      → IsPromised g words old new status
      → MakesNothing words
      → g.outcomes new (g.moment old) o
      → Left (g.size old) first
      (record { words = words; old = old; new = new; status = status; outcome = o })
  left_by None first old new status o is rest same none at =
      untaken first old new status o is rest same at
  left_by (Some m) first old new status o is rest runs none at =
      taken m first old new status o
      (run_is_round g only_now modelled m old new status rest o at runs none first is)

  -- the device on what a run has left
  left_there : (size : ℕ) (first : Mounted) (r : CutRun D) (left : Left size first r)
      → IsIn size left.next r.outcome.image
  left_there size first r left =
      subst (λ (o : Outcome). IsIn size left.next o.image) left.of.outcome left.of.is.leaves

  -- one round more
  more : (size : ℕ) (first : Mounted) (r : CutRun D) (rs : List (CutRun D))
      (left : Left size first r)
      → HaveRounds g size left.next rs
      → HaveRounds g size first (r ∷ rs)
  more size first r rs left have = record {
    rounds = left.round ∷ have.rounds;
    last = have.last;
    of = (left.next, left.of, have.of);
    are = (left.next, left.of.is, have.are);
  }

  pub chain : (size : ℕ) (first : Mounted) (image : Image) (runs : List (CutRun D))
      → IsIn size first image
      → AreCutRuns g size image runs
      → MakeNothing runs
      → HaveRounds g size first runs
  chain size first image [] is are none =
      record { rounds = []; last = first; of = refl; are = refl }
  chain size first image (r ∷ rs) is are none =
      more size first r rs left
      (chain size left.next r.outcome.image rs (left_there size first r left) are.2 none.1)
    where
      one : IsCutRun g size r
      one = are.0

      here : IsIn (g.size r.old) first (g.seen r.old)
      here =
          subst (λ (n : ℕ). IsIn n first (g.seen r.old)) (sym one.sized)
          (subst (λ (i : Image). IsIn size first i) (sym are.1) is)

      left : Left size first r
      left =
          subst (λ (n : ℕ). Left n first r) one.sized
          (left_by r.words first r.old r.new r.status r.outcome here one.rest one.promised none.0
          one.outcome)

  -- rounds of this device, or what a run that gives it was cut before
  given_chain : (size : ℕ) (image : Image) (r : CutRun D) (rs : List (CutRun D))
      (m : Meaning) (first : Mounted) (Before : Type 0)
      → AreCutRuns g size image (r ∷ rs)
      → MakeNothing rs
      → r.words ≡ Some m
      → LeavesRound m size (g.input_left r.old) first (g.told r.old) r.outcome ⊎ Before
      → HaveRounds g size first (r ∷ rs) ⊎ Before
  given_chain size image r rs m first Before are none words begun =
      elim begun [
        | inl left ↦
            inl (more size first r rs (given left)
            (chain size (given left).next r.outcome.image rs
            (left_there size first r (given left)) are.2 none))
        | inr leaves ↦ inr leaves
      ]
    where
      given : LeavesRound m size (g.input_left r.old) first (g.told r.old) r.outcome
          → Left size first r
      given left = record {
        round = record { run = left.run; told = g.told r.old; outcome = r.outcome };
        next = left.next;
        of = record {
          asked =
              subst
              (λ (w : Option Meaning). IsAskedFor w size (g.input_left r.old) first left.run)
              (sym words)
              left.is;
          told = refl;
          outcome = refl;
          is = left.round;
        };
      }

  -- what the run promises
  promised : (size : ℕ) (r : CutRun D) (m : Meaning)
      → IsCutRun g size r
      → r.words ≡ Some m
      → IsRun g m r.old r.new r.status
  promised size r m one words =
      subst (λ (w : Option Meaning). IsPromised g w r.old r.new r.status) words one.promised

  pub making_chain : (size : ℕ) (image : Image) (r : CutRun D) (rs : List (CutRun D))
      → AreCutRuns g size image (r ∷ rs)
      → MakeNothing rs
      → (m : Meaning)
      → r.words ≡ Some m
      → (set : List SetImage)
      → (limit max : ℕ)
      → IsMaking m size (g.input_left r.old) set limit max
      → HaveRounds g size (made_device_of set limit max size) (r ∷ rs)
      ⊎ LeavesMaking (g.told r.old) set limit max size image r.outcome
  making_chain size image r rs are none m words set limit max makes =
      given_chain size image r rs m (made_device_of set limit max size)
      (LeavesMaking (g.told r.old) set limit max size image r.outcome) are none words
      (subst
      (λ (i : Image). LeavesRound m size (g.input_left r.old)
      (made_device_of set limit max size) (g.told r.old) r.outcome
      ⊎ LeavesMaking (g.told r.old) set limit max size i r.outcome)
      are.1
      (subst
      (λ (n : ℕ). LeavesRound m n (g.input_left r.old)
      (made_device_of set limit max n) (g.told r.old) r.outcome
      ⊎ LeavesMaking (g.told r.old) set limit max n (g.seen r.old) r.outcome)
      one.sized
      (making_is_round g only_now modelled m r.old r.new r.status one.rest r.outcome
      one.outcome (promised size r m one words) set limit max
      (subst (λ (n : ℕ). IsMaking m n (g.input_left r.old) set limit max) (sym one.sized)
      makes))))
    where
      one : IsCutRun g size r
      one = are.0

  pub adopting_chain : (size : ℕ) (image : Image) (r : CutRun D) (rs : List (CutRun D))
      → AreCutRuns g size image (r ∷ rs)
      → MakeNothing rs
      → (slot : ℕ)
      → r.words ≡ Some (Adopt slot)
      → (first : Mounted)
      → adopted size slot image ≡ Ok first
      → adopt_refusal size slot image ≡ None
      → HaveRounds g size first (r ∷ rs)
      ⊎ LeavesAdopting (g.told r.old) size slot image r.outcome
  adopting_chain size image r rs are none slot words first is unrefused =
      given_chain size image r rs (Adopt slot) first
      (LeavesAdopting (g.told r.old) size slot image r.outcome) are none words
      (subst
      (λ (i : Image). LeavesRound (Adopt slot) size (g.input_left r.old) first (g.told r.old)
      r.outcome
      ⊎ LeavesAdopting (g.told r.old) size slot i r.outcome)
      are.1
      (subst
      (λ (n : ℕ). LeavesRound (Adopt slot) n (g.input_left r.old) first (g.told r.old) r.outcome
      ⊎ LeavesAdopting (g.told r.old) n slot (g.seen r.old) r.outcome)
      one.sized
      (adopting_is_round g only_now modelled (Adopt slot) r.old r.new r.status one.rest r.outcome
      one.outcome (promised size r (Adopt slot) one words) slot refl first
      ((λ i. adopted (one.sized i) slot (are.1 i)) ∙ is)
      ((λ i. adopt_refusal (one.sized i) slot (are.1 i)) ∙ unrefused))))
    where
      one : IsCutRun g size r
      one = are.0
