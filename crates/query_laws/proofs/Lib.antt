mod Prepared
mod Laws
