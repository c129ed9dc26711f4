-- What holds of a table that an edit gives.
use Rattle.std.proofs.Common.{◌≡◌, ◌≢◌, ◌∙◌, inl, inr, ℕ, List, [], ◌++◌, Result, Ok, Err, refl}
use Rattle.std.proofs.Common.{sym, ap, true}
use Rattle.std.proofs.lemmas.Bool.{cases_Bool}
use Rattle.std.specs.Prelude.{AllPairs, nat_le}
use Rattle.std.proofs.lemmas.List.Kept.{AllPairs-filter}
use Rattle.vab_names.specs.Names.{base_of, is_of_slot, suffix_of}
use Rattle.vab_names.proofs.NameLaws.{of_slot}
use Rattle.vab_tables.specs.declared.table.Table.{Table}
use Rattle.vab_tables.specs.Rules.{KeepsRules}
use Rattle.vab_tables.specs.Spelling.{table_size_of, as_minor_2}
use Rattle.vab_layout.specs.declared.layout.Part.{Part as PartOfLayout}
use Rattle.vab_layout.specs.declared.layout.Layout.{Layout}
use Rattle.vab_layout.specs.Layout.{layout_of, table_of}
use Rattle.vab_layout.specs.Slots.{own_parts, IsTargetBeside}
use Rattle.vab_layout.proofs.LayoutLaws.{layout_keeps}
use Rattle.vab_builder.specs.declared.edit.Edit.{Edit}
use Rattle.vab_builder.specs.declared.fault.EditFault.{EditFault}
use Rattle.vab_builder.specs.declared.fault.EditFault.TheVariants as faults
use Rattle.vab_builder.specs.Edits.{changed_beside, edited_beside, fitting, if_fitting}
use Rattle.vab_builder.specs.Gives.{IsTableOf, GivesTable}
use Rattle.vab_builder.proofs.Counting.{pairs_map, pairs_weaker}
use Rattle.vab_blocks.proofs.Contained.{of_filter}
use Rattle.vab_builder.proofs.Verdicts.{unless_ok}
use Rattle.vab_device.specs.declared.device.Part.{Part}
use Rattle.vab_device.specs.Phases.{planned_on, plan_of}
use Rattle.vab_device.specs.Updates.{refusal_of, wants_for}
use Rattle.vab_builder.specs.Judged.{IsGiven, IsRefused}
use Rattle.vab_edit.specs.Prepared.{RefusesBy}
use Rattle.vab_plan.specs.Scans.{IsTargetTable}

-- ---- the table

pub target_table : (slot : ℕ) (twins source : List PartOfLayout) (u : Table)
    → KeepsRules u
    → IsTargetBeside slot twins source (layout_of u).parts
    → IsTargetTable slot u
target_table slot twins source u rules target =
    record { rules = rules; own = target.own; once = target.once }

-- it is read again as it is
minor_2 : (l : Layout) → as_minor_2 (table_of l) ≡ table_of l
unfolding table_of
minor_2 l = refl

pub same_minor : (u : Table) (said : Result Layout EditFault)
    → IsTableOf u said
    → as_minor_2 u ≡ u
same_minor u said is = ap as_minor_2 is.2 ∙ minor_2 is.0 ∙ sym is.2

-- its layout is that which the edit gives
pub gives_layout : (slot max : ℕ) (twins : List PartOfLayout) (s t u : Table) (edit : Edit)
    → IsTableOf u (edited_beside slot twins (layout_of s) (layout_of t) max edit)
    → changed_beside slot twins (layout_of s) (layout_of t) edit ≡ Ok (layout_of u)
    → edited_beside slot twins (layout_of s) (layout_of t) max edit ≡ Ok (layout_of u)
gives_layout slot max twins s t u edit is layout =
    let fits : edited_beside slot twins (layout_of s) (layout_of t) max edit
    ≡ fitting max (layout_of u) =
    ap (if_fitting max) layout in
    let taken = unless_ok (nat_le (table_size_of (table_of (layout_of u))) max)
    (faults.TableFull (table_size_of (table_of (layout_of u))) max) (Ok (layout_of u)) is.0
    (sym fits ∙ is.1) in
    is.1 ∙ sym taken.1

-- its extents are the maximal runs of its layout
pub own_runs : (u : Table) (said : Result Layout EditFault)
    → IsTableOf u said
    → said ≡ Ok (layout_of u)
    → u ≡ table_of (layout_of u)
own_runs u said is gives =
    let both : (let r : Result Layout EditFault = Ok is.0 in r ≡ Ok (layout_of u)) =
    sym is.1 ∙ gives in
    let same : is.0 ≡ layout_of u = cc in
    is.2 ∙ ap table_of same

-- ---- refusals

-- an edit that isn't refused before its text is measured may want memory
fits_or : (max : ℕ) (l : Layout) → wants_for (fitting max l) ≡ true
fits_or max l = elim (cases_Bool (nat_le (table_size_of (table_of l)) max)) [
  | inl fits ↦ rw fits refl
  | inr long ↦ rw long refl
]

pub passed_wants : (max : ℕ) (said : Result Layout EditFault)
    → IsGiven said
    → wants_for (if_fitting max said) ≡ true
passed_wants max said passes =
    ap (λ (r : Result Layout EditFault). wants_for (if_fitting max r)) passes.1
    ∙ fits_or max passes.0

gives_refusal : (said : Result Layout EditFault) (fault : EditFault)
    → wants_for said ≡ true
    → (let r : Result Table EditFault = Err fault in GivesTable r said)
    → RefusesBy said (refusal_of fault)
gives_refusal said faults.NoMemory wants h = inl (refl, wants)
gives_refusal said faults.BadName wants h = inr (faults.BadName, h, refl)
gives_refusal said faults.BadSize wants h = inr (faults.BadSize, h, refl)
gives_refusal said faults.Unknown wants h = inr (faults.Unknown, h, refl)
gives_refusal said faults.Exists wants h = inr (faults.Exists, h, refl)
gives_refusal said faults.HasStore wants h = inr (faults.HasStore, h, refl)
gives_refusal said (faults.TooMany n) wants h = inr (faults.TooMany n, h, refl)
gives_refusal said (faults.GroupLimit u l) wants h = inr (faults.GroupLimit u l, h, refl)
gives_refusal said (faults.NoRoom u c) wants h = inr (faults.NoRoom u c, h, refl)
gives_refusal said (faults.TableFull s m) wants h = inr (faults.TableFull s m, h, refl)

-- so is one that is refused before, without memory
pub refuses_so : (max : ℕ) (said : Result Layout EditFault) (fault : EditFault)
    → IsRefused said fault
    → (let r : Result Table EditFault = Err fault in GivesTable r (if_fitting max said))
    → RefusesBy (if_fitting max said) (refusal_of fault)
refuses_so max said fault is gives = elim is [
  | inl refused ↦ inr (fault, ap (if_fitting max) refused, refl)
  | inr given ↦ gives_refusal (if_fitting max said) fault (passed_wants max said given) gives
]

-- ---- the plan

-- no two of a plan have one name
pub plan_differs : (slot : ℕ) (u : Table)
    → KeepsRules u
    → AllPairs (λ (a b : Part). a.name ≢ b.name) (plan_of slot (layout_of u) [])
plan_differs slot u rules =
    let l : Layout = layout_of u in
    let own : List PartOfLayout = own_parts slot l.parts in
    let differ = AllPairs-filter (λ (a b : PartOfLayout). a.name ≢ b.name)
    (λ p. is_of_slot slot p.name) l.parts
    (layout_keeps u rules).part_names in
    pairs_map (λ (a b : Part). a.name ≢ b.name) (planned_on l []) own
    (pairs_weaker (λ (a b : PartOfLayout). a.name ≢ b.name)
    (λ (a b : PartOfLayout). base_of a.name ≢ base_of
    b.name) own
    (λ a b in_a in_b other e. other
    (of_slot slot a.name (of_filter (λ (p : PartOfLayout). is_of_slot slot p.name) l.parts a in_a).1
    ∙ ap (λ (n : List ℕ). n ++ suffix_of slot) e
    ∙ sym (of_slot slot b.name (of_filter (λ (p : PartOfLayout). is_of_slot slot p.name) l.parts b
    in_b).1)))
    differ)
