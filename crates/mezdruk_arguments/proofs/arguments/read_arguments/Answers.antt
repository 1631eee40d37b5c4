use Rattle.std.proofs.Common.{◌≡◌, inl, inr, sym, subst, take, ◌∷◌, [], arith}
use Rattle.std.proofs.lemmas.List.{take_all}
use Rattle.std.proofs.lemmas.Option.{slice_get_within}
use Rattle.mezdruk_arguments.specs.CommandLine.{nothing_asked, MayFollow, MayFollowAll, with_arguments, BeginsCommandLine}
use Rattle.mezdruk_arguments.specs.Line.{HoldsAsked}
use Rattle.mezdruk_arguments.proofs.CommandLines.{follow_join, after_join, begins, begins_none, word_added}
use Rattle.mezdruk_arguments.proofs.arguments.read_arguments.Goals as goal

pub returns-in-Err-Invalid-clause-err : goal.returns-in-Err-Invalid-clause-err
returns-in-Err-Invalid-clause-err c =
    let words = c.args.words.now in
    let before = take c.words.i words in
    let w = c.word.result.now in
    let none : ¬ (MayFollow (with_arguments nothing_asked before) w) = elim c.in-Err-Invalid.ensures.err [ inl m ↦ absurd (cc) | inr n ↦ n _ c.words.invariant.holds ] in
    record {
      within = slice_get_within words c.words.i w c.word.ensures;
      before = begins before c.words.invariant.follow;
      none = subst (λ l. ¬ (BeginsCommandLine l)) (word_added words c.words.i w c.word.ensures) (begins_none before w none);
    }

pub words-preserved : goal.words-preserved
words-preserved c =
    let words = c.args.words.now in
    let before = take c.words.i words in
    let w = c.word.result.now in
    let added = word_added words c.words.i w c.word.ensures in
    let taken = c.in-Ok.ensures.ok (with_arguments nothing_asked before) c.words.invariant.holds in
    record {
      follow = subst (MayFollowAll nothing_asked) added (follow_join nothing_asked before (w ∷ []) c.words.invariant.follow (taken.0, tt));
      holds = subst (λ l. HoldsAsked c.take.new.self (with_arguments nothing_asked l)) added (subst (HoldsAsked c.take.new.self) (sym (after_join nothing_asked before (w ∷ []))) taken.1);
    }

pub returns-in-Err-clause-err : goal.returns-in-Err-clause-err
returns-in-Err-clause-err c =
    let words = c.args.words.now in
    let all : take c.words.i words ≡ words = take_all c.words.i words (omega arith) in
    let holds = subst (λ l. HoldsAsked c.words.line (with_arguments nothing_asked l)) all c.words.invariant.holds in
    record {
      begins = begins words (subst (MayFollowAll nothing_asked) all c.words.invariant.follow);
      unfinished = λ line. cc (c.in-Err.ensures.err (with_arguments nothing_asked words) holds, line.complete);
    }
