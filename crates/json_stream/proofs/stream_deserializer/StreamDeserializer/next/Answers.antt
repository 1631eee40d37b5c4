use Rattle.json_data.specs.Reading.{gives}
use Rattle.json_stream.proofs.CleanEnd.{clean_end}
use Rattle.json_stream.proofs.stream_deserializer.StreamDeserializer.next.Goals as goal

pub returns-clause-clean : goal.returns-clause-clean
returns-clause-clean g c =
    let d = c.deserialize-value in
    rw (← c.self.view_is)
    (clean_end g.T.DeserializeFrom.from_tree c.self.inside.input d.new.self d.result (λ v. gives (g.T.DeserializeFrom.datum v)) d.ensures.ok d.ensures.err)
