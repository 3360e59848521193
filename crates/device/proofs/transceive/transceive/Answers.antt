use Rattle.std.proofs.lemmas.Result.{err_from_is_err_and}
use Rattle.stages.specs.Bitrates.{rate_passed}
use Rattle.device.specs.Transceive.{transceive_first}
use Rattle.device.proofs.transceive.transceive.Goals as goal

pub returns-in_err-rate : goal.returns-in_err-rate
unfolding transceive_first
returns-in_err-rate c =
    let p = err_from_is_err_and c.from_residual.result c.from_residual.ensures.1 in
    rw (p.1, p.2) (rate_passed _ _ _ c.code.ensures _ _ c.in_err-rate.was)
