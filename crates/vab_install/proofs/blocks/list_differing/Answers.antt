use Rattle.std.proofs.Common.{◌≡◌, ◌+◌, ℕ, Bool, List, [], ◌∷◌, ◌++◌, length, length-append, IfSome}
use Rattle.std.proofs.Common.{unwrap_or, option_copied, refl, sym, ap, ◌∙◌, subst, arith}
use Rattle.std.proofs.lemmas.Option.{IfSome_then}
use Rattle.vab_disk.specs.Disk.{Image}
use Rattle.vab_disk.proofs.CallLaws.{reads_none, reads_then}
use Rattle.vab_space.specs.Chunks.{chunks_for}
use Rattle.vab_space.specs.Differing.{chunk_differs}
use Rattle.vab_space.proofs.DifferingLaws.{passing, passing_true, passing_false, differing_is}
use Rattle.vab_install.specs.Differing.{differs_at, AscendsBelow}
use Rattle.vab_install.proofs.DifferingLaws.{ascends_none, ascends_wider, ascends_more}
use Rattle.vab_install.proofs.DifferingLaws.{pushed_keeps}
use Rattle.vab_install.proofs.blocks.list_differing.Goals as goal
use Rattle.vab_install.proofs.blocks.list_differing.Goals.{then-branch, else-branch}

pub loop-number-init : goal.loop-number-init
loop-number-init g c = record {
  count = λ t. refl;
  exact = λ t. c.new.ensures.items;
  most = omega arith;
  lists =
      subst (AscendsBelow 0 c.args.most 0) (sym c.new.ensures.items) (ascends_none 0 c.args.most);
  reads = reads_none g.D.Disk _;
  steady = refl;
}

pub loop-number-preserved : goal.loop-number-preserved
loop-number-preserved g c =
    let differs : Bool = c.in_ok-chunk_differs.field-0 in
    let n : ℕ = c.loop-number.number in
    let count : ℕ = c.loop-number.count in
    let most : ℕ = c.args.most in
    let on : Image → ℕ → Bool =
    λ i. chunk_differs c.args.chunk
    (differs_at (unwrap_or (option_copied c.args.base) []) i c.args.image.now) c.args.blocks in
    let test : ℕ → Bool = on (g.D.Disk.seen c.args.d.now) in
    let inv = c.loop-number.invariant in
    let ok = c.in_ok-chunk_differs.ensures in
    let is = λ (t : g.D.Disk.is_modelled).
    sym (ok.exact t ∙ ap (λ (i : Image). on i n) (inv.reads.seen t)) in
    record {
      count = λ t. elim c.if-branch.branch [
        | then-branch w ↦
            omega (
              arith,
              w.count-is,
              inv.count t,
              ap length (passing_true test n (is t ∙ w.if-branch.true)),
              length-append (passing test n) (n ∷ []),
            )
        | else-branch w ↦
            omega (
              arith,
              w.count-is,
              inv.count t,
              ap length (passing_false test n (is t ∙ w.if-branch.false)),
            )
      ];
      exact = λ t. elim c.if-branch.branch [
        | then-branch w ↦
            let more = passing_true test n (is t ∙ w.if-branch.true) in
            subst (λ o. IfSome o (λ v. v.items ≡ passing test (n + 1))) (sym w.chunks-is)
            (pushed_keeps (λ v. v.items) n most c.loop-number.chunks w.push_within-chunks.result
            (λ l. l ≡ passing test n) (λ l. l ≡ passing test (n + 1)) w.push_within-chunks.ensures
            (λ l room same. ap (λ (k : List ℕ). k ++ n ∷ []) same ∙ sym more) (inv.exact t))
        | else-branch w ↦
            let same = passing_false test n (is t ∙ w.if-branch.false) in
            subst (λ o. IfSome o (λ v. v.items ≡ passing test (n + 1))) (sym w.chunks-is)
            (IfSome_then c.loop-number.chunks (inv.exact t) (λ v listed. listed ∙ sym same))
      ];
      most = elim c.if-branch.branch [
        | then-branch w ↦ omega (arith, w.count-is, inv.most)
        | else-branch w ↦ omega (arith, w.count-is, inv.most)
      ];
      lists = elim c.if-branch.branch [
        | then-branch w ↦
            subst (λ m. IfSome c.if-branch.chunks (λ v. AscendsBelow (n + 1) most m v.items))
            (sym w.count-is)
            (subst (λ o. IfSome o (λ v. AscendsBelow (n + 1) most (count + 1) v.items))
            (sym w.chunks-is)
            (pushed_keeps (λ v. v.items) n most c.loop-number.chunks w.push_within-chunks.result
            (AscendsBelow n most count) (AscendsBelow (n + 1) most (count + 1))
            w.push_within-chunks.ensures (λ l. ascends_more n most count l) inv.lists))
        | else-branch w ↦
            subst (λ m. IfSome c.if-branch.chunks (λ v. AscendsBelow (n + 1) most m v.items))
            (sym w.count-is)
            (subst (λ o. IfSome o (λ v. AscendsBelow (n + 1) most count v.items))
            (sym w.chunks-is)
            (IfSome_then c.loop-number.chunks inv.lists
            (λ v. ascends_wider n most count v.items)))
      ];
      reads = reads_then g.D.Disk _ _ _ inv.reads ok.reads;
      steady = ok.faults.steady ∙ inv.steady;
    }

pub returns-clause-count : goal.returns-clause-count
returns-clause-count g c = λ t.
    let test : ℕ → Bool =
    differs_at (unwrap_or (option_copied c.args.base) []) (g.D.Disk.seen c.args.d.now)
    c.args.image.now in
    let all : c.loop-number.number ≡ chunks_for c.args.chunk c.args.blocks =
    omega (
      arith,
      c.loop-number-test.false,
      c.loop-number.auto.number-end,
      c.chunks_for-number-end.ensures,
    ) in
    c.loop-number.invariant.count t
    ∙ ap (λ (m : ℕ). length (passing (chunk_differs c.args.chunk test c.args.blocks) m)) all
    ∙ ap length (sym (differing_is c.args.chunk test c.args.blocks))

pub returns-clause-exact : goal.returns-clause-exact
returns-clause-exact g c = λ t.
    let test : ℕ → Bool =
    differs_at (unwrap_or (option_copied c.args.base) []) (g.D.Disk.seen c.args.d.now)
    c.args.image.now in
    let all : c.loop-number.number ≡ chunks_for c.args.chunk c.args.blocks =
    omega (
      arith,
      c.loop-number-test.false,
      c.loop-number.auto.number-end,
      c.chunks_for-number-end.ensures,
    ) in
    let same = ap (passing (chunk_differs c.args.chunk test c.args.blocks)) all
    ∙ sym (differing_is c.args.chunk test c.args.blocks) in
    IfSome_then c.loop-number.chunks (c.loop-number.invariant.exact t) (λ v listed. listed ∙ same)
