mod Exact
mod Laws
mod RateLaws
