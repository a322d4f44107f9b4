use Rattle.game.proofs.Recording.{game_begins, game_fits, game_ends}
use Rattle.game.proofs.Wanting.{ended_since}
use Rattle.game.proofs.playing.play.Goals as goal

pub play_on-ended-requires : goal.play_on-ended-requires
play_on-ended-requires c =
    (game_begins c.new-referee.result c.args.machine.now c.keys.result c.args.most c.args.room c.args.store.now c.begin.new.store c.new-referee.ensures.machine c.keys.ensures c.in-Ready.ensures
    c.new-referee.ensures.transcript
    ).0

pub returns : goal.returns
returns c =
    let m = c.args.machine.now in
    let n = c.args.most in
    let room = c.args.room in
    let w₀ = c.args.store.now in
    let w = c.play_on-ended.new.store in
    let o = c.play_on-ended.new.out in
    let t = c.play_on-ended.new.self.transcript in
    let began = c.in-Ready.ensures in
    let r = c.new-referee.result in
    let most = (game_begins r m c.keys.result n room w₀ c.begin.new.store c.new-referee.ensures.machine c.keys.ensures began c.new-referee.ensures.transcript).1 in
    let ended = ended_since m r.machine.now n _ w o t c.play_on-ended.result c.new-referee.ensures.machine most c.play_on-ended.ensures in
    let fit = game_fits m c.keys.result n room w₀ c.begin.new.store c.keys.ensures began in
    rw c.finish.ensures (game_ends m n room w₀ w c.args.out.now o t fit c.play_on-ended.result ended)
