use Rattle.json_text.proofs.laws.lossy_takes_surrogates.Goals as goal

pub returns : goal.returns
returns c = λ limit rules b k. (λ (p, x, l, n, o, (e, i, s)). s, λ ((p, x, l, n, o, (e, i, s)), m). s, λ (p, x, l, n, o, (e, i, s)). s)
