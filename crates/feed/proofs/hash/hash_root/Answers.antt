use Rattle.std.proofs.Common.{IfSome, [], ◌∷◌, length, refl, sym, ap, ap₂, subst, subst₂, ◌∙◌, arith, length-append}
use Rattle.hashing.specs.Words.{hash_by}
use Rattle.sameness.specs.Kinds.{IsNode}
use Rattle.sameness.specs.Reducing.{kind_in}
use Rattle.feed.specs.Hashed.{AllReduced}
use Rattle.feed.specs.Nodes.{node_in}
use Rattle.feed.specs.Pending.{noted_of, AllNoted}
use Rattle.feed.proofs.Nodes.{noted-read}
use Rattle.feed.proofs.Roots.{all_reduced, noted_none, noted_one, root-hash}
use Rattle.feed.proofs.hash.hash_root.Goals as goal

pub loop-kind-init : goal.loop-kind-init
loop-kind-init g c =
    record {
      words = refl;
      kinds = refl;
      reduced = all_reduced _ _ _ c.kinds-kinds.ensures.first (c.kinds-kinds.ensures.count c.requires.few) c.requires;
      count = ap length c.new.ensures;
      all = subst (AllNoted (hash_by g.H.Hasher) c.args.words.now c.kinds-kinds.result.now) (sym c.new.ensures) (noted_none _ _ _);
    }

pub loop-kind-preserved : goal.loop-kind-preserved
loop-kind-preserved g c =
    let i = c.loop-kind.invariant in
    let f = hash_by g.H.Hasher in
    let ws = c.loop-kind.noted.words.now in
    let ks = c.loop-kind.noted.kinds.now in
    let os = c.loop-kind.noted.operands.items in
    let p = c.push.ensures.items in
    let k = kind_in c.kinds-kinds.result.now c.loop-kind.kind-index in
    let n : IsNode c.args.words.now k c.unwrap-node.result = subst (λ o. IfSome o (IsNode c.args.words.now k)) c.unwrap-node.ensures c.node.ensures.some in
    let e = c.hash_operands-operands.ensures
    ∙ noted-read ws k _ (subst (λ z. IsNode z k c.unwrap-node.result) (sym i.words) n) f
    ∙ ap (λ z. noted_of f ws (node_in ws z)) (ap₂ kind_in (sym i.kinds) (sym i.count)) in
    record {
      words = i.words;
      kinds = i.kinds;
      reduced = i.reduced;
      count = ap length p ∙ omega (arith, i.count, length-append os (c.hash_operands-operands.result ∷ []));
      all = subst (AllNoted f ws ks) (sym p) (noted_one f ws ks os _ (omega (arith, i.count, c.loop-kind-test.true, ap length i.kinds)) e i.all);
    }

pub returns : goal.returns
returns g c =
    let i = c.loop-kind.invariant in
    c.hash_node.ensures ∙ rw i.words (root-hash _ _ _ (subst₂ AllReduced i.words i.kinds i.reduced))
