use Rattle.std.proofs.Common.{◌≡◌, List, ℕ, Result, Ok, Err, map, string_bytes, IfOk, IfErr, subst}
use Rattle.std.proofs.Common.{refl, inl, inr}
use Rattle.std.specs.Prelude.{◌⊎◌}
use Rattle.std.proofs.lemmas.Result.{IfOk-weaker}
use Rattle.vab_pack.specs.declared.fault.WordFault.{WordFault}
use Rattle.vab_pack.specs.declared.fault.WordFault.TheVariants as faults
use Rattle.vab_pack.proofs.FaultLaws.{fault_comes, fault_holds}
use Rattle.vab_pack.specs.Faults.{IsFaultOf}
use Rattle.vab_pack.specs.Asked.{Ask, Asked}
use Rattle.vab_pack.specs.Words.{Gives, asked_of}
use Rattle.vab_pack.proofs.WordLaws.{words_found, words_again, set_of_names}
use Rattle.vab_pack.proofs.words.parse_words.Goals as goal

found : {V : Type 0} (view : V → List Asked) (words : List (List ℕ)) (r : Result V WordFault)
    → Gives view r (asked_of words)
    → IfOk r (λ v. Ask words (view v))
found view words (Ok v) h = words_found words (view v) h
found view words (Err e) h = tt

pub returns-clause-found : goal.returns-clause-found
returns-clause-found c = found (λ v. v.items) (map string_bytes c.args.words.now) c.parse_all.result
    c.parse_all.ensures

pub returns-clause-only : goal.returns-clause-only
returns-clause-only c = λ asked is. subst (λ (said : Result (List Asked) WordFault).
    Gives (λ v. v.items) c.parse_all.result said)
    (words_again (map string_bytes c.args.words.now) asked is) c.parse_all.ensures

pub returns-clause-set : goal.returns-clause-set
returns-clause-set c =
    let words : List (List ℕ) = map string_bytes c.args.words.now in
    IfOk-weaker c.parse_all.result _ _ (λ v is. set_of_names words v.items is)
    (found (λ v. v.items) words c.parse_all.result c.parse_all.ensures)

fault : {V : Type 0} (view : V → List Asked) (words : List (List ℕ)) (r : Result V WordFault)
    → Gives view r (asked_of words)
    → IfErr r (λ e. (e ≡ faults.NoMemory) ⊎ IsFaultOf words e)
fault view words (Ok v) h = tt
fault view words (Err faults.NoMemory) h = inl refl
fault view words (Err (faults.TooMany n)) h = inr (fault_holds words (faults.TooMany n) h)
fault view words (Err (faults.BadWord i)) h = inr (fault_holds words (faults.BadWord i) h)
fault view words (Err (faults.BadName i)) h = inr (fault_holds words (faults.BadName i) h)
fault view words (Err (faults.Repeated i j)) h = inr (fault_holds words (faults.Repeated i j) h)
fault view words (Err (faults.BadSize i)) h = inr (fault_holds words (faults.BadSize i) h)
fault view words (Err (faults.BadStore i)) h = inr (fault_holds words (faults.BadStore i) h)

pub returns-clause-fault : goal.returns-clause-fault
returns-clause-fault c = fault (λ v. v.items) (map string_bytes c.args.words.now) c.parse_all.result
    c.parse_all.ensures

pub returns-clause-faulty : goal.returns-clause-faulty
returns-clause-faulty c = λ e is. subst (λ (said : Result (List Asked) WordFault).
    Gives (λ v. v.items) c.parse_all.result said)
    (fault_comes (map string_bytes c.args.words.now) e is) c.parse_all.ensures
